-- Equal atoms, and lists of atoms.
use Rattle.std.specs.Prelude.{List, [], ◌∷◌, Bool, false, ◌||◌, if◌then◌else◌}
use Rattle.std.specs.Ordering.{is_eq}
use Rattle.affine_index.specs.Order.{atom_order}
use Rattle.affine_index.specs.declared.form.Atom.{Atom}

-- whether two atoms are equal
abbrev pub same_atoms : Atom → Atom → Bool
same_atoms a b = is_eq (atom_order a b)

-- whether an atom stands in a list
abbrev pub stands_in : Atom → List Atom → Bool
stands_in a [] = false
stands_in a (b ∷ bs) = same_atoms a b || stands_in a bs

-- the factors without the first that equals one
abbrev pub without : Atom → List Atom → List Atom
without f [] = []
without f (g ∷ gs) = if same_atoms f g then gs else g ∷ without f gs

-- the different atoms of a list, which is in order
abbrev pub different : List Atom → List Atom
different [] = []
different (a ∷ as') = if stands_in a as' then different as' else a ∷ different as'
