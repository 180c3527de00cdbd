-- Forms on the way to a result: how large they are, and one step of a sum.
use Rattle.std.specs.Prelude.{ℕ, ◌+◌, List, [], ◌∷◌, Option, Some, None}
use Rattle.std.specs.Int.RustNames.{unsigned_abs}
use Rattle.std.specs.declared.cmp.Ordering.{Ordering}
use Rattle.affine_index.specs.Order.{atom_order}
use Rattle.affine_index.specs.declared.form.Atom.{Atom}
use Rattle.affine_index.specs.declared.form.Item.{Item}
use Rattle.affine_index.specs.declared.form.Items.{Items}

-- the first item, where there is one
abbrev pub first_of : List (Item Atom) → Option (Item Atom)
first_of [] = None
first_of (t ∷ ts) = Some t

-- the order of the atoms of the first items, where there are both
abbrev pub first_order : List (Item Atom) → List (Item Atom) → Option Ordering
first_order [] bs = None
first_order (a ∷ as') [] = None
first_order (a ∷ as') (b ∷ bs) = Some (atom_order a.atom b.atom)

-- the sizes of the coefficients, added
abbrev pub terms_norm : List (Item Atom) → ℕ
terms_norm [] = 0
terms_norm (t ∷ ts) = unsigned_abs t.coefficient + terms_norm ts

-- the sizes of the coefficients and of the constant, added
abbrev pub norm : Items → ℕ
norm i = terms_norm i.terms + unsigned_abs i.constant
