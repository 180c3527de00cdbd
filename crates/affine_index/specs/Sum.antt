-- Sums, differences and multiples of forms, without limits.
use Rattle.std.specs.Prelude.{List, [], ◌∷◌, ℤ, pos, negsuc, ◌+ℤ◌, ◌*ℤ◌, Bool, true, false}
use Rattle.std.specs.Ordering.{int_eq}
use Rattle.std.specs.declared.cmp.Ordering.{Ordering}
use Rattle.std.specs.declared.cmp.Ordering.TheVariants.{Less, Equal, Greater}
use Rattle.affine_index.specs.Form.{literal_form}
use Rattle.affine_index.specs.Order.{atom_order}
use Rattle.affine_index.specs.declared.form.Atom.{Atom}
use Rattle.affine_index.specs.declared.form.Item.{Item}
use Rattle.affine_index.specs.declared.form.Items.{Items}

-- an item in front, unless its coefficient is 0
abbrev pub item_if : Bool → Item Atom → List (Item Atom) → List (Item Atom)
item_if true t rest = rest
item_if false t rest = t ∷ rest

-- two items of one atom, which go away where they cancel
abbrev pub combined : Item Atom → Item Atom → List (Item Atom) → List (Item Atom)
combined a b rest =
    item_if (int_eq (a.coefficient +ℤ b.coefficient) (pos 0)) (record { atom = a.atom; coefficient = a.coefficient +ℤ b.coefficient }) rest

-- the lesser of two items first
abbrev pub onto_by : Ordering → Item Atom → (List (Item Atom) → List (Item Atom)) → Item Atom → List (Item Atom) → List (Item Atom) → List (Item Atom)
onto_by Less a rest b bs later = a ∷ rest (b ∷ bs)
onto_by Greater a rest b bs later = b ∷ later
onto_by Equal a rest b bs later = combined a b (rest bs)

-- the first item of one list and the rest of it, into another
abbrev pub onto : Item Atom → (List (Item Atom) → List (Item Atom)) → List (Item Atom) → List (Item Atom)
onto a rest [] = a ∷ rest []
onto a rest (b ∷ bs) = onto_by (atom_order a.atom b.atom) a rest b bs (onto a rest bs)

-- both lists in order, with the coefficients of equal atoms added
abbrev pub merged : List (Item Atom) → List (Item Atom) → List (Item Atom)
merged [] bs = bs
merged (a ∷ as') bs = onto a (merged as') bs

-- the sum of two forms
abbrev pub sum_of : Items → Items → Items
sum_of a b = record { terms = merged a.terms b.terms; constant = a.constant +ℤ b.constant }

-- each coefficient times a number
abbrev pub scaled_terms : ℤ → List (Item Atom) → List (Item Atom)
scaled_terms c [] = []
scaled_terms c (t ∷ ts) = record { atom = t.atom; coefficient = c *ℤ t.coefficient } ∷ scaled_terms c ts

-- a multiple of a form, which is 0 where the number is
abbrev pub scaled_if : Bool → ℤ → Items → Items
scaled_if true c i = literal_form (pos 0)
scaled_if false c i = record { terms = scaled_terms c i.terms; constant = c *ℤ i.constant }

-- a multiple of a form
abbrev pub scaled : ℤ → Items → Items
scaled c i = scaled_if (int_eq c (pos 0)) c i

-- the difference of two forms
abbrev pub difference_of : Items → Items → Items
difference_of a b = sum_of a (scaled (negsuc 0) b)

-- a form and multiples of forms, added
abbrev pub add_up : List (Item Items) → Items → Items
add_up [] start = start
add_up (t ∷ ts) start = add_up ts (sum_of start (scaled t.coefficient t.atom))
