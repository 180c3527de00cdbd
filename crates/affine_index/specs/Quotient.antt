-- Floor quotients and remainders of forms by a number, without limits.
use Rattle.std.specs.Prelude.{ℕ, List, [], ◌∷◌, ℤ, pos}
use Rattle.std.specs.Int.{int_div_euclid, int_rem_euclid}
use Rattle.std.specs.Ordering.{int_eq}
use Rattle.affine_index.specs.Form.{literal_form, of_atom}
use Rattle.affine_index.specs.Sum.{difference_of, item_if, scaled, sum_of}
use Rattle.affine_index.specs.declared.form.Atom.{Atom}
use Rattle.affine_index.specs.declared.form.Atom.TheVariants.{Div}
use Rattle.affine_index.specs.declared.form.Item.{Item}
use Rattle.affine_index.specs.declared.form.Items.{Items}

-- an item in front, unless the coefficient is 0
abbrev pub item_of : Atom → ℤ → List (Item Atom) → List (Item Atom)
item_of a c rest = item_if (int_eq c (pos 0)) (record { atom = a; coefficient = c }) rest

-- how often k goes into each coefficient
abbrev pub whole_terms : ℕ → List (Item Atom) → List (Item Atom)
whole_terms k [] = []
whole_terms k (t ∷ ts) = item_of t.atom (int_div_euclid t.coefficient (pos k)) (whole_terms k ts)

-- what k leaves of each coefficient, in 0..k-1
abbrev pub rest_terms : ℕ → List (Item Atom) → List (Item Atom)
rest_terms k [] = []
rest_terms k (t ∷ ts) = item_of t.atom (int_rem_euclid t.coefficient (pos k)) (rest_terms k ts)

-- the form b of a = k*b + r
abbrev pub whole_part : Items → ℕ → Items
whole_part a k = record { terms = whole_terms k a.terms; constant = int_div_euclid a.constant (pos k) }

-- the form r of a = k*b + r, whose coefficients and constant are in 0..k-1
abbrev pub rest_part : Items → ℕ → Items
rest_part a k = record { terms = rest_terms k a.terms; constant = int_rem_euclid a.constant (pos k) }

-- the quotient of such a form r as an atom, which is 0 where r is a constant
abbrev pub quotient_atom : List (Item Atom) → ℤ → ℕ → Items
quotient_atom [] c k = literal_form (pos 0)
quotient_atom (t ∷ ts) c k = of_atom (Div (record { terms = t ∷ ts; constant = c }) k)

-- the floor of a form divided by k
abbrev pub quotient_of : Items → ℕ → Items
quotient_of a k = sum_of (whole_part a k) (quotient_atom (rest_part a k).terms (rest_part a k).constant k)

-- what the floor quotient leaves
abbrev pub remainder_of : Items → ℕ → Items
remainder_of a k = difference_of a (scaled (pos k) (quotient_of a k))
