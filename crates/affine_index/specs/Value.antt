-- The whole number that a form stands for.
use Rattle.std.specs.Prelude.{ℕ, List, [], ◌∷◌, slice_index, ℤ, pos, ◌+ℤ◌, ◌*ℤ◌}
use Rattle.std.specs.Int.{int_div_euclid}
use Rattle.affine_index.specs.declared.form.Atom.{Atom}
use Rattle.affine_index.specs.declared.form.Items.{Items}
use Rattle.affine_index.specs.declared.form.Item.{Item}
use Rattle.affine_index.specs.declared.form.Atom.TheOpen.{Atom-F, Items-F}
use Rattle.affine_index.specs.declared.form.Atom.TheFolds.{fold-Atom, fold-Items}

-- the product of the factors
abbrev pub product : List ℤ → ℤ
product [] = pos 1
product (x ∷ xs) = x *ℤ product xs

-- the sum of the items, each a value and its coefficient
abbrev pub weighted : List (Item ℤ) → ℤ
weighted [] = pos 0
weighted (t ∷ ts) = (t.coefficient *ℤ t.atom) +ℤ weighted ts

module _ (sizes vars : List ℕ) where
  -- a size and a variable have their own number, a quotient is the floor, a product that of its factors
  abbrev pub atom_step : Atom-F ℤ ℤ → ℤ
  atom_step (Atom-F.Size s) = pos (slice_index sizes s)
  atom_step (Atom-F.Var v) = pos (slice_index vars v)
  atom_step (Atom-F.Div items k) = int_div_euclid items (pos k)
  atom_step (Atom-F.Mul factors) = product factors

  -- the sum of the items and the constant
  abbrev pub items_step : Items-F ℤ ℤ → ℤ
  items_step i = weighted i.terms +ℤ i.constant

  -- the value of an atom
  abbrev pub atom_value : Atom → ℤ
  atom_value = fold-Atom ℤ ℤ atom_step items_step

  -- the value of a form
  abbrev pub items_value : Items → ℤ
  items_value = fold-Items ℤ ℤ atom_step items_step

  -- the sum of the items of a form
  abbrev pub terms_value : List (Item Atom) → ℤ
  terms_value [] = pos 0
  terms_value (t ∷ ts) = (t.coefficient *ℤ atom_value t.atom) +ℤ terms_value ts
