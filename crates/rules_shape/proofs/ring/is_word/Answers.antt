use Rattle.std.proofs.Common.{sym}
use Rattle.rules_shape_tensor.proofs.ReachLaws.{whole_scoped}
use Rattle.rules_shape.proofs.ring.is_word.Goals as goal

pub shape-requires-clause-scoped : goal.shape-requires-clause-scoped
shape-requires-clause-scoped c = whole_scoped c.args.focus.now c.requires c.get.result.now (sym c.get.ensures)
