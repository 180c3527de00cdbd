use Rattle.std.proofs.Common.{◌≡◌, ℕ, ◌<◌, get_or, true}
use Rattle.affine_index.specs.Normal.{is_normal}
use Rattle.affine_index.specs.declared.form.Items.{Items}
use Rattle.affine_index.proofs.aff.all_told.Given as goal

abbrev pub invariant-loop-form : goal.invariant-loop-form
invariant-loop-form l = (k : ℕ) (d : Items) → k < l.form-index → is_normal (get_or l.forms k d) ≡ true
