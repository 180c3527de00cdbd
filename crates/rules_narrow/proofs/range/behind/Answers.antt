use Rattle.rules_narrow.specs.Narrow.{behind}
use Rattle.rules_narrow.proofs.range.behind.Goals as goal

pub returns : goal.returns
returns c = c.if_normal.ensures (behind c.args.n.now c.args.a.now c.args.m.now) c.rest_behind.ensures
