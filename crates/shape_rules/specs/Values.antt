-- The values of shapes at sizes, where no number that must not be negative is.
use Rattle.std.specs.Prelude.{◌≡◌, ℕ, List, [], ◌∷◌, pos, true}
use Rattle.affine_index.specs.Condition.{at_least_zero}
use Rattle.affine_index.specs.Value.{items_value}
use Rattle.affine_index.specs.declared.form.Items.{Items}
use Rattle.term_tree.specs.Shape.{Extents}

-- none of the numbers is negative at these sizes
abbrev pub NoneNegative : List ℕ → List Items → Type 0
NoneNegative s [] = Unit {0}
NoneNegative s (n ∷ ns) = (at_least_zero (items_value s [] n) ≡ true) × NoneNegative s ns

-- the forms have these values, one by one
abbrev pub HaveValues : List ℕ → Extents → List ℕ → Type 0
HaveValues s [] [] = Unit {0}
HaveValues s [] (d ∷ ds) = ⊥
HaveValues s (n ∷ ns) [] = ⊥
HaveValues s (n ∷ ns) (d ∷ ds) = (items_value s [] n ≡ pos d) × HaveValues s ns ds

-- the forms of each tensor variable have these values
abbrev pub AllHaveValues : List ℕ → List Extents → List (List ℕ) → Type 0
AllHaveValues s [] [] = Unit {0}
AllHaveValues s [] (d ∷ ds) = ⊥
AllHaveValues s (ns ∷ ts) [] = ⊥
AllHaveValues s (ns ∷ ts) (d ∷ ds) = HaveValues s ns d × AllHaveValues s ts ds
