-- Products of forms, multiplied out, without limits.
use Rattle.std.specs.Prelude.{List, [], ◌∷◌, pos}
use Rattle.std.specs.declared.cmp.Ordering.{Ordering}
use Rattle.std.specs.declared.cmp.Ordering.TheVariants.{Less, Equal, Greater}
use Rattle.affine_index.specs.Form.{literal_form, of_atom}
use Rattle.affine_index.specs.Order.{atom_order}
use Rattle.affine_index.specs.Sum.{add_up, scaled}
use Rattle.affine_index.specs.declared.form.Atom.{Atom, out-Atom}
use Rattle.affine_index.specs.declared.form.Atom.TheVariants.{Mul}
use Rattle.affine_index.specs.declared.form.Atom.TheOpen.{Atom-F}
use Rattle.affine_index.specs.declared.form.Item.{Item}
use Rattle.affine_index.specs.declared.form.Items.{Items}

-- the lesser of two factors first
abbrev pub factor_onto_by : Ordering → Atom → (List Atom → List Atom) → Atom → List Atom → List Atom → List Atom
factor_onto_by Less a rest b bs later = a ∷ rest (b ∷ bs)
factor_onto_by Equal a rest b bs later = a ∷ rest (b ∷ bs)
factor_onto_by Greater a rest b bs later = b ∷ later

-- the first factor of one list and the rest of it, into another
abbrev pub factor_onto : Atom → (List Atom → List Atom) → List Atom → List Atom
factor_onto a rest [] = a ∷ rest []
factor_onto a rest (b ∷ bs) = factor_onto_by (atom_order a b) a rest b bs (factor_onto a rest bs)

-- both lists of factors, in order
abbrev pub merged_factors : List Atom → List Atom → List Atom
merged_factors [] bs = bs
merged_factors (a ∷ as') bs = factor_onto a (merged_factors as') bs

-- the factors of one level of an atom
abbrev pub layer_factors : Atom → Atom-F Atom Items → List Atom
layer_factors a (Atom-F.Mul fs) = fs
layer_factors a _ = a ∷ []

-- the factors of an atom, which is its own where it is no product
abbrev pub factors_of : Atom → List Atom
factors_of a = layer_factors a (out-Atom a)

-- the product of two atoms
abbrev pub atom_product : Atom → Atom → Atom
atom_product a b = Mul (merged_factors (factors_of a) (factors_of b))

-- an atom times each atom of a list of items
abbrev pub atom_products : Atom → List (Item Atom) → List (Item Items)
atom_products a [] = []
atom_products a (t ∷ ts) = record { atom = of_atom (atom_product a t.atom); coefficient = t.coefficient } ∷ atom_products a ts

-- an atom times a form
abbrev pub atom_times : Atom → Items → Items
atom_times a b = add_up (atom_products a b.terms) (scaled b.constant (of_atom a))

-- each atom of a list of items times a form
abbrev pub term_products : List (Item Atom) → Items → List (Item Items)
term_products [] b = []
term_products (t ∷ ts) b = record { atom = atom_times t.atom b; coefficient = t.coefficient } ∷ term_products ts b

-- the product of two forms
abbrev pub product_of : Items → Items → Items
product_of a b = add_up (term_products a.terms b) (scaled a.constant b)

-- the product of a list of forms
abbrev pub product_of_all : List Items → Items
product_of_all [] = literal_form (pos 1)
product_of_all (i ∷ is) = product_of i (product_of_all is)
