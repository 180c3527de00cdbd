use Rattle.std.proofs.Common.{sym}
use Rattle.rules_loop.proofs.TurnReach.{whole_reach, whole_small}
use Rattle.rules_loop.proofs.raising.rows_there.Goals as goal

pub rows-requires-clause-deep : goal.rows-requires-clause-deep
rows-requires-clause-deep c = (whole_reach c.args.focus.now c.requires c.get.result.now (sym c.get.ensures)).0

pub rows-requires-clause-small : goal.rows-requires-clause-small
rows-requires-clause-small c = whole_small c.args.focus.now c.requires c.get.result.now (sym c.get.ensures)

pub rows-requires-clause-within : goal.rows-requires-clause-within
rows-requires-clause-within c = (whole_reach c.args.focus.now c.requires c.get.result.now (sym c.get.ensures)).1
