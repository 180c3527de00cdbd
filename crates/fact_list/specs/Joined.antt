-- What is left of a product where factors are taken out.
use Rattle.std.specs.Prelude.{List, [], ◌∷◌}
use Rattle.affine_index.specs.declared.form.Atom.{Atom}
use Rattle.affine_index.specs.declared.form.Atom.TheVariants.{Mul}

-- a factor with others
abbrev pub joined_with : Atom → List Atom → Atom
joined_with f [] = f
joined_with f (g ∷ gs) = Mul (f ∷ g ∷ gs)

-- a factor alone, or the product of several
abbrev pub joined : List Atom → Atom
joined [] = Mul []
joined (f ∷ fs) = joined_with f fs
