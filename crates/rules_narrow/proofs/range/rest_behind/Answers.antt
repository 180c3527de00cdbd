use Rattle.rules_narrow.proofs.RangeForms.{whole_ordered, whole_small}
use Rattle.rules_narrow.proofs.range.rest_behind.Goals as goal

pub less-requires-clause-small : goal.less-requires-clause-small
less-requires-clause-small c = whole_small c.args.n.now c.in_ok-whole.whole c.copied.ensures.normal c.in_ok-whole.ensures.same

pub less-requires-clause-ordered : goal.less-requires-clause-ordered
less-requires-clause-ordered c = whole_ordered c.args.n.now c.in_ok-whole.whole c.copied.ensures.normal c.in_ok-whole.ensures.same
