-- The whole number that an index expression stands for, whatever its size.
use Rattle.std.specs.Prelude.{◌≡◌, ℕ, ◌-◌, ◌<◌, List, length, get_or, slice_index, true, ℤ, pos, ◌+ℤ◌, ◌-ℤ◌, ◌*ℤ◌, Option, Some, None}
use Rattle.std.specs.Int.{int_div_euclid, int_rem_euclid}
use Rattle.affine_index.specs.Limited.{items_scoped}
use Rattle.affine_index.specs.Value.{items_value}
use Rattle.affine_index.specs.declared.form.Items.{Items}
use Rattle.loop_lang.specs.declared.index.Iexp.{Iexp, Lit, Size, Loop}
use Rattle.loop_lang.specs.Reckoning.{Value, larger, reckon}
use Rattle.loop_lang.specs.Syntax.{index_sum, index_difference, index_product, index_quotient, index_remainder, index_larger}

-- at sizes s and loop variables r from the outermost
abbrev pub tree_value : Iexp → List ℕ → List ℕ → ℤ
tree_value (Lit n) s r = n
tree_value (Size k) s r = pos (get_or s k 0)
tree_value (Loop d) s r = pos (get_or r d 0)
tree_value (index_sum a b) s r = tree_value a s r +ℤ tree_value b s r
tree_value (index_difference a b) s r = tree_value a s r -ℤ tree_value b s r
tree_value (index_product a b) s r = tree_value a s r *ℤ tree_value b s r
tree_value (index_quotient a k) s r = int_div_euclid (tree_value a s r) (pos k)
tree_value (index_remainder a k) s r = int_rem_euclid (tree_value a s r) (pos k)
tree_value (index_larger a b) s r = larger (tree_value a s r) (tree_value b s r)

-- what index arithmetic in 64 signed bits gives is that number
abbrev pub ReckonedIsTheValue : Type 0
ReckonedIsTheValue = (t : Iexp) (s r : List ℕ) (z : ℤ) → reckon t s r ≡ Value z → z ≡ tree_value t s r

-- the loop variables r from the outermost are the index variables v from the innermost
abbrev pub AreTurns : List ℕ → List ℕ → Type 0
AreTurns r v = (k : ℕ) → k < length r → slice_index v k ≡ get_or r (length r - 1 - k) 0

-- under so many loops the tree stands for the value of the form
abbrev pub Computes : ℕ → Items → Iexp → Type 0
Computes loops i t =
    (sizes : ℕ) (s r v : List ℕ) → length r ≡ loops → AreTurns r v → items_scoped sizes loops i ≡ true → tree_value t s r ≡ items_value s v i

-- a first summand, where there is one
abbrev pub summand_value : Option Iexp → List ℕ → List ℕ → ℤ
summand_value None s r = pos 0
summand_value (Some a) s r = tree_value a s r

-- behind a first summand it stands for the sum
abbrev pub ComputesSum : ℕ → Option Iexp → Items → Iexp → Type 0
ComputesSum loops a i t =
    (sizes : ℕ) (s r v : List ℕ) → length r ≡ loops → AreTurns r v → items_scoped sizes loops i ≡ true
    → tree_value t s r ≡ summand_value a s r +ℤ items_value s v i
