-- Rows and sums of tensors of known extents.
use Rattle.std.proofs.Common.{◌≡◌, ℕ, zero, suc, ◌+◌, ◌%◌, ◌^◌, List, [], ◌∷◌, get_or, refl, ap, sym, ◌∙◌}
use Rattle.std.specs.Prelude.{ℤ, pos, negsuc}
use Rattle.binders.proofs.Rows.{tabulate-same}
use Rattle.binders.proofs.Sums.{zeros_idempotent}
use Rattle.shape_rules.proofs.RowShapes.{total_shape}
use Rattle.term_tree.specs.Meaning.{row_at}
use Rattle.term_tree.specs.Shaped.{HasRows, HasShape}
use Rattle.term_tree.specs.Tensors.{Tensor, Word, End, Row, by_places, copies, from_rows, plus_places, rows_of, tabulate, total, zeros}

-- a row of what is made by places is made of the rows
module _ (g : ℕ → ℕ → ℕ) (P : Tensor → Type 0) (z : Tensor) (idem : by_places g z z ≡ z) where
  pub row_by_places : (n : ℕ) (x y : Tensor) (i : ℕ) → HasRows P n x → HasRows P n y
      → get_or (rows_of (by_places g x y)) i z ≡ by_places g (get_or (rows_of x) i z) (get_or (rows_of y) i z)
  row_by_places zero (Word w) y i h k = absurd h
  row_by_places zero (Row a rest) y i h k = absurd h
  row_by_places zero End (Word w) i h k = absurd k
  row_by_places zero End (Row a rest) i h k = absurd k
  row_by_places zero End End i h k = sym idem
  row_by_places (suc n) (Word w) y i h k = absurd h
  row_by_places (suc n) End y i h k = absurd h
  row_by_places (suc n) (Row a rest) (Word w) i h k = absurd k
  row_by_places (suc n) (Row a rest) End i h k = absurd k
  row_by_places (suc n) (Row a rest) (Row b more) zero h k = refl
  row_by_places (suc n) (Row a rest) (Row b more) (suc i) h k = row_by_places n rest more i h.1 k.1

  pub row_at_by_places : (n : ℕ) (x y : Tensor) (i : ℤ) → HasRows P n x → HasRows P n y
      → row_at (rows_of (by_places g x y)) i z ≡ by_places g (row_at (rows_of x) i z) (row_at (rows_of y) i z)
  row_at_by_places n x y (pos i) h k = row_by_places n x y i h k
  row_at_by_places n x y (negsuc i) h k = sym idem

-- what leaves 0 where it is made of 0 and 0 leaves zeros
module _ (g : ℕ → ℕ → ℕ) (nothing : g 0 0 ≡ 0) where
  copies_left : (n : ℕ) (z : Tensor) → by_places g z z ≡ z → by_places g (from_rows (copies n z)) (from_rows (copies n z)) ≡ from_rows (copies n z)
  copies_left zero z h = refl
  copies_left (suc n) z h = λ i. Row (h i) (copies_left n z h i)

  pub zeros_left : (ds : List ℕ) → by_places g (zeros ds) (zeros ds) ≡ zeros ds
  zeros_left [] = ap Word nothing
  zeros_left (n ∷ ns) = copies_left n (zeros ns) (zeros_left ns)

-- no row of zeros is another tensor than zeros
zero_row : (n : ℕ) (z : Tensor) (i : ℕ) → get_or (rows_of (from_rows (copies n z))) i z ≡ z
zero_row zero z i = refl
zero_row (suc n) z zero = refl
zero_row (suc n) z (suc i) = zero_row n z i

zero_row_at : (n : ℕ) (z : Tensor) (i : ℤ) → row_at (rows_of (from_rows (copies n z))) i z ≡ z
zero_row_at n z (pos i) = zero_row n z i
zero_row_at n z (negsuc i) = refl

-- a row of a sum is the sum of the rows
pub row_of_total : (d : ℕ) (ds : List ℕ) (n : ℕ) (g : ℕ → Tensor) (i : ℤ) → ((k : ℕ) → HasShape (d ∷ ds) (g k))
    → row_at (rows_of (total (zeros (d ∷ ds)) (tabulate n g))) i (zeros ds) ≡ total (zeros ds) (tabulate n (λ k. row_at (rows_of (g k)) i (zeros ds)))
row_of_total d ds zero g i h = zero_row_at d (zeros ds) i
row_of_total d ds (suc n) g i h =
    row_at_by_places (λ v w. (v + w) % 2 ^ 64) (HasShape ds) (zeros ds) (zeros_idempotent ds) d (g 0) (total (zeros (d ∷ ds)) (tabulate n (λ k. g
    (suc k)))) i (h 0)
    (total_shape (d ∷ ds) n (λ k. g (suc k)) (λ k. h (suc k)))
    ∙ (λ j. plus_places (row_at (rows_of (g 0)) i (zeros ds)) (row_of_total d ds n (λ k. g (suc k)) i (λ k. h (suc k)) j))

-- rows added one by one
rows_added : (m : ℕ) (f g : ℕ → Tensor) → plus_places (from_rows (tabulate m f)) (from_rows (tabulate m g)) ≡ from_rows (tabulate m (λ j. plus_places
    (f j) (g j)))
rows_added zero f g = refl
rows_added (suc m) f g = λ i. Row (plus_places (f 0) (g 0)) (rows_added m (λ j. f (suc j)) (λ j. g (suc j)) i)

-- a sum of rows has the sums as rows
pub total_of_rows : (m : ℕ) (ds : List ℕ) (n : ℕ) (f : ℕ → ℕ → Tensor)
    → total (zeros (m ∷ ds)) (tabulate n (λ i. from_rows (tabulate m (f i)))) ≡ from_rows (tabulate m (λ j. total (zeros ds) (tabulate n (λ i. f i j))))
total_of_rows m ds zero f = ap from_rows (sym (tabulate-same m (zeros ds)))
total_of_rows m ds (suc n) f =
    (λ k. plus_places (from_rows (tabulate m (f 0))) (total_of_rows m ds n (λ i. f (suc i)) k))
    ∙ rows_added m (f 0) (λ j. total (zeros ds) (tabulate n (λ i. f (suc i) j)))

-- the rows of a tensor, one by one
pub rows_again : (P : Tensor → Type 0) (n : ℕ) (x z : Tensor) → HasRows P n x → from_rows (tabulate n (λ i. get_or (rows_of x) i z)) ≡ x
rows_again P zero (Word w) z h = absurd h
rows_again P zero End z h = refl
rows_again P zero (Row a rest) z h = absurd h
rows_again P (suc n) (Word w) z h = absurd h
rows_again P (suc n) End z h = absurd h
rows_again P (suc n) (Row a rest) z h = λ i. Row a (rows_again P n rest z h.1 i)
