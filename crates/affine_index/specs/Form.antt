-- Plain forms: a number, a size, a variable, an atom.
use Rattle.std.specs.Prelude.{ℕ, [], ◌∷◌, ℤ, pos}
use Rattle.affine_index.specs.declared.form.Atom.{Atom}
use Rattle.affine_index.specs.declared.form.Atom.TheVariants.{Size, Var}
use Rattle.affine_index.specs.declared.form.Items.{Items}

-- a number as a form
abbrev pub literal_form : ℤ → Items
literal_form z = record { terms = []; constant = z }

-- an atom as a form, once
abbrev pub of_atom : Atom → Items
of_atom a = record { terms = record { atom = a; coefficient = pos 1 } ∷ []; constant = pos 0 }

-- the size of a number
abbrev pub size_form : ℕ → Items
size_form s = of_atom (Size s)

-- the index variable of a number, counted from the innermost
abbrev pub var_form : ℕ → Items
var_form v = of_atom (Var v)
