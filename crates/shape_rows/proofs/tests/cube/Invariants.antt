use Rattle.std.proofs.Common.{◌≡◌, true}
use Rattle.term_tree.specs.Modules.{extents_scoped}
use Rattle.shape_rules.specs.Scopes.{each_free}
use Rattle.shape_rows.proofs.tests.cube.Given as goal

abbrev pub invariant-loop-i : goal.invariant-loop-i
invariant-loop-i l = (each_free l.extents ≡ true) × (extents_scoped 1 l.extents ≡ true)
