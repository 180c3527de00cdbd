-- The magnitude of a form at the greatest sizes and variables.
use Rattle.std.specs.Prelude.{ℕ, ◌+◌, ◌*◌, List, [], ◌∷◌, slice_index}
use Rattle.std.specs.Int.RustNames.{unsigned_abs}
use Rattle.affine_index.specs.declared.form.Atom.{Atom}
use Rattle.affine_index.specs.declared.form.Item.{Item}
use Rattle.affine_index.specs.declared.form.Items.{Items}
use Rattle.affine_index.specs.declared.form.Atom.TheOpen.{Atom-F, Items-F}
use Rattle.affine_index.specs.declared.form.Atom.TheFolds.{fold-Atom, fold-Items}

-- the product of numbers
abbrev pub product_of_magnitudes : List ℕ → ℕ
product_of_magnitudes [] = 1
product_of_magnitudes (n ∷ ns) = n * product_of_magnitudes ns

-- the sizes of the coefficients times the magnitudes of their atoms, added
abbrev pub sum_of_magnitudes : List (Item ℕ) → ℕ
sum_of_magnitudes [] = 0
sum_of_magnitudes (t ∷ ts) = unsigned_abs t.coefficient * t.atom + sum_of_magnitudes ts

module _ (maxima vars : List ℕ) where
  -- a size has its maximum, a variable its own, a quotient that of its dividend
  abbrev pub magnitude_step : Atom-F ℕ ℕ → ℕ
  magnitude_step (Atom-F.Size s) = slice_index maxima s
  magnitude_step (Atom-F.Var v) = slice_index vars v
  magnitude_step (Atom-F.Div i k) = i
  magnitude_step (Atom-F.Mul factors) = product_of_magnitudes factors

  -- the sum of the items' magnitudes and the size of the constant
  abbrev pub magnitude_items_step : Items-F ℕ ℕ → ℕ
  magnitude_items_step i = sum_of_magnitudes i.terms + unsigned_abs i.constant

  -- the magnitude of an atom
  abbrev pub atom_magnitude : Atom → ℕ
  atom_magnitude = fold-Atom ℕ ℕ magnitude_step magnitude_items_step

  -- the magnitude of a form, without a stop
  abbrev pub magnitude : Items → ℕ
  magnitude = fold-Items ℕ ℕ magnitude_step magnitude_items_step

  -- the same of a list of items
  abbrev pub terms_magnitude : List (Item Atom) → ℕ
  terms_magnitude [] = 0
  terms_magnitude (t ∷ ts) = unsigned_abs t.coefficient * atom_magnitude t.atom + terms_magnitude ts

  -- the same of a list of factors
  abbrev pub factors_magnitude : List Atom → ℕ
  factors_magnitude [] = 1
  factors_magnitude (f ∷ fs) = atom_magnitude f * factors_magnitude fs
