use Rattle.std.proofs.Common.{sym}
use Rattle.rules_loop.proofs.TurnReach.{whole_scoped}
use Rattle.rules_loop.proofs.raising.extent_there.Goals as goal

pub first_extent-requires-clause-scoped : goal.first_extent-requires-clause-scoped
first_extent-requires-clause-scoped c = whole_scoped c.args.focus.now c.requires c.get.result.now (sym c.get.ensures)
