-- A printed index computes its value in 64 signed bits.
use Rattle.std.specs.Prelude.{◌≡◌, ℕ, ◌^◌, ◌<◌, ◌≤◌, List, length, true, ℤ, Some}
use Rattle.affine_index.specs.declared.form.Items.{Items}
use Rattle.affine_index.specs.Limited.{items_scoped}
use Rattle.affine_index.specs.Magnitude.{magnitude}
use Rattle.affine_index.specs.Normal.{is_ordered}
use Rattle.affine_index.specs.Printed.{WithinMaxima, printed_value}
use Rattle.affine_index.specs.Value.{items_value}
use Rattle.loop_lang.specs.Reckoning.{Value, reckon}
use Rattle.index_trees.specs.Tree.{index_tree}
use Rattle.index_trees.specs.Value.{AreTurns}

-- the tree of a form in normal order computes what its text computes, where no partial result of the text passes a limit below 2^63: nothing leaves 64
-- signed bits, and no dividend is negative
abbrev pub PrintedTreesReckon : Type 0
PrintedTreesReckon =
    (limit : ℕ) → limit < 2 ^ 63 → (i : Items) → is_ordered i ≡ true → (sizes : ℕ) (s v r : List ℕ) → AreTurns r v → items_scoped sizes (length r) i ≡ true
    → (z : ℤ) → printed_value limit s v i ≡ Some z → reckon (index_tree (length r) i) s r ≡ Value z

-- so it computes the value of the form at all sizes and variables within maxima of at least 1 at which the magnitude is at most 2^62
abbrev pub TreesAreExact : Type 0
TreesAreExact =
    (i : Items) → is_ordered i ≡ true → (s v r maxima most : List ℕ) → AreTurns r v → WithinMaxima s maxima → WithinMaxima v most → length most ≡ length r
    → items_scoped (length maxima) (length most) i ≡ true → magnitude maxima most i ≤ 2 ^ 62
    → reckon (index_tree (length r) i) s r ≡ Value (items_value s v i)
