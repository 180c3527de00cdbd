-- What is put for variables, as the operations take it.
use Rattle.std.specs.Prelude.{◌≡◌, ℕ, true}
use Rattle.affine_index.specs.Normal.{is_normal}
use Rattle.affine_index.specs.Put.{given, moved, one_given}
use Rattle.affine_index.specs.declared.put.Put.{Put}
use Rattle.affine_index.specs.declared.put.Put.TheVariants.{Given, One, Moved}
use Rattle.affine_index.specs.declared.form.Items.{Items}

-- the form for each variable
abbrev pub what_put : Put → ℕ → Items
what_put (Given by) = given by.now
what_put (One v by) = one_given v by.now
what_put (Moved from by) = moved from by

-- each form that is put is a normal form
abbrev pub AllNormal : Put → Type 0
AllNormal p = (v : ℕ) → is_normal (what_put p v) ≡ true
