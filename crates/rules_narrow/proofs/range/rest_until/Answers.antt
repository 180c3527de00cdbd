use Rattle.rules_narrow.proofs.RangeForms.{total_ordered, total_small}
use Rattle.rules_narrow.proofs.range.rest_until.Goals as goal

pub less-requires-clause-small : goal.less-requires-clause-small
less-requires-clause-small c =
    total_small c.args.x.now c.args.m.now c.total.ensures.normal.0 c.total.ensures.normal.1 c.in_ok-end.end c.in_ok-end.ensures.form

pub less-requires-clause-ordered : goal.less-requires-clause-ordered
less-requires-clause-ordered c =
    total_ordered c.args.x.now c.args.m.now c.total.ensures.normal.0 c.total.ensures.normal.1 c.in_ok-end.end c.in_ok-end.ensures.form
