-- Shapes of nodes within nodes, where each is there.
use Rattle.std.proofs.Common.{◌≡◌, ◌∷◌, refl, sym, Ok, Err, IsOk}
use Rattle.affine_index.specs.declared.form.Items.{Items}
use Rattle.term_tree.specs.Shape.{Extents, Shaped, limited, of_first, with_child}
use Rattle.rule_parts.proofs.Replacing.{never}

-- a shape that is handed on
pub handed_on : (z : Shaped) → IsOk z → z ≡ with_child 0 z (λ ns. Ok ns)
handed_on (Ok ns) h = refl
handed_on (Err m) h = absurd (never h)

-- the first of two steps is there where both are
pub first_ok : (z : Shaped) (g : Extents → Shaped) → IsOk (with_child 0 z g) → IsOk z
first_ok (Ok ns) g h = refl
first_ok (Err m) g h = absurd (never h)

-- handed on once, in place of twice
pub once_on : (x : Shaped) → IsOk (with_child 0 (with_child 0 x (λ ns. Ok ns)) (λ ns. Ok ns))
    → with_child 0 x (λ ns. Ok ns) ≡ with_child 0 (with_child 0 x (λ ns. Ok ns)) (λ ns. Ok ns)
once_on (Ok ns) h = refl
once_on (Err m) h = absurd (never h)

-- and twice, in place of once
pub twice_on : (x : Shaped) → IsOk (with_child 0 x (λ ns. Ok ns))
    → with_child 0 (with_child 0 x (λ ns. Ok ns)) (λ ns. Ok ns) ≡ with_child 0 x (λ ns. Ok ns)
twice_on (Ok ns) h = refl
twice_on (Err m) h = absurd (never h)

-- rows of what is handed on
pub rows_on : (m : Items) (x : Shaped) → IsOk (with_child 0 (with_child 0 x (λ ns. limited (m ∷ ns))) (λ ns. Ok ns))
    → with_child 0 (with_child 0 x (λ ns. Ok ns)) (λ ns. limited (m ∷ ns)) ≡ with_child 0 (with_child 0 x (λ ns. limited (m ∷ ns))) (λ ns. Ok ns)
rows_on m (Ok ns) h = handed_on (limited (m ∷ ns)) (first_ok (limited (m ∷ ns)) (λ ns. Ok ns) h)
rows_on m (Err e) h = absurd (never h)

-- rows handed on
pub on_rows : (m : Items) (x : Shaped) → IsOk (with_child 0 (with_child 0 x (λ ns. Ok ns)) (λ ns. limited (m ∷ ns)))
    → with_child 0 (with_child 0 x (λ ns. limited (m ∷ ns))) (λ ns. Ok ns) ≡ with_child 0 (with_child 0 x (λ ns. Ok ns)) (λ ns. limited (m ∷ ns))
on_rows m (Ok ns) h = sym (handed_on (limited (m ∷ ns)) h)
on_rows m (Err e) h = absurd (never h)

-- a row of a shape
abbrev pub row : Shaped → Shaped
row x = with_child 0 x (λ ns. of_first ns (λ n rest. Ok rest))

-- a row of what is handed on
pub row_on : (x : Shaped) → IsOk (row (with_child 0 x (λ ns. Ok ns))) → with_child 0 (row x) (λ ns. Ok ns) ≡ row (with_child 0 x (λ ns. Ok ns))
row_on (Ok ns) h = sym (handed_on (row (Ok ns)) h)
row_on (Err m) h = absurd (never h)

-- both children handed on, or the first alone
module _ (g : Extents → Extents → Shaped) where
  pub both_on : (x y : Shaped) → IsOk (with_child 0 (with_child 0 x (λ ns. with_child 1 y (λ ms. g ns ms))) (λ ns. Ok ns))
      → with_child 0 (with_child 0 x (λ ns. Ok ns)) (λ ns. with_child 1 (with_child 0 y (λ ms. Ok ms)) (λ ms. g ns ms))
      ≡ with_child 0 (with_child 0 x (λ ns. with_child 1 y (λ ms. g ns ms))) (λ ns. Ok ns)
  both_on (Ok ns) (Ok ms) h = handed_on (g ns ms) (first_ok (g ns ms) (λ ns. Ok ns) h)
  both_on (Ok ns) (Err m) h = absurd (never h)
  both_on (Err m) y h = absurd (never h)

  pub left_on : (x y : Shaped) → IsOk (with_child 0 (with_child 0 x (λ ns. with_child 1 y (λ ms. g ns ms))) (λ ns. Ok ns))
      → with_child 0 (with_child 0 x (λ ns. Ok ns)) (λ ns. with_child 1 y (λ ms. g ns ms))
      ≡ with_child 0 (with_child 0 x (λ ns. with_child 1 y (λ ms. g ns ms))) (λ ns. Ok ns)
  left_on (Ok ns) (Ok ms) h = handed_on (g ns ms) (first_ok (g ns ms) (λ ns. Ok ns) h)
  left_on (Ok ns) (Err m) h = absurd (never h)
  left_on (Err m) y h = absurd (never h)
