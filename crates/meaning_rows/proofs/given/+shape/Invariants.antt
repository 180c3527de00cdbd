use Rattle.std.proofs.Common.{drop, map}
use Rattle.atl_meaning.specs.Values.{meant}
use Rattle.term_tree.specs.Modules.{extents_at}
use Rattle.meaning_rows.specs.Given.{AreGiven}
use Rattle.meaning_rows.proofs.given.+shape.Given as goal

abbrev pub invariant-have_shape-loop-row : goal.invariant-have_shape-loop-row
invariant-have_shape-loop-row l = AreGiven (extents_at l.extents l.sizes) (map meant (drop l.row-index l.rows))
    → AreGiven (extents_at l.extents l.sizes) (map meant l.rows)
