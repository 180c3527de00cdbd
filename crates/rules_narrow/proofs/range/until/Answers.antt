use Rattle.rules_narrow.specs.Narrow.{until}
use Rattle.rules_narrow.proofs.range.until.Goals as goal

pub returns : goal.returns
returns c = c.if_normal.ensures (until c.args.x.now c.args.m.now) c.rest_until.ensures
