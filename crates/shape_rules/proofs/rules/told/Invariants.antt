use Rattle.std.proofs.Common.{◌≡◌, drop}
use Rattle.term_tree.specs.Shape.{each_fits, each_short}
use Rattle.shape_rules.proofs.rules.told.Given as goal

abbrev pub invariant-loop-form : goal.invariant-loop-form
invariant-loop-form l = (each_fits (drop l.form-index l.extents) ≡ each_fits l.extents) × (each_short (drop l.form-index l.extents) ≡ each_short l.extents)
