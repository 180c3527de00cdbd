-- Rows of lists that are cut, joined and filled up.
use Rattle.std.proofs.Common.{◌≡◌, ℕ, zero, suc, ◌+◌, ◌-◌, ◌<◌, List, [], ◌∷◌, ◌++◌, drop, take, get_or, length, refl, ap, arith}
use Rattle.std.specs.Prelude.{ℤ, pos, negsuc, ◌+ℤ◌, ◌≤ℤ◌}
use Rattle.std.proofs.lemmas.Int.{ints}
use Rattle.shape_rules.specs.Fits.{HasFirst}
use Rattle.term_tree.specs.Meaning.{head_of, row_at}
use Rattle.term_tree.specs.Shaped.{HasRows, HasShape}
use Rattle.term_tree.specs.Tensors.{Tensor, Word, End, Row, copies, drop_last, from_rows, rows_of}
use Rattle.term_tree.proofs.TensorLaws.{rows_of-from_rows}

-- the row of a tensor that is made of rows
pub row_of : (xs : List Tensor) (i : ℤ) (z : Tensor) → row_at (rows_of (from_rows xs)) i z ≡ row_at xs i z
row_of xs i z = λ j. row_at (rows_of-from_rows xs j) i z

-- a tensor has as many rows as its first extent says
rows_many : (P : Tensor → Type 0) (n : ℕ) (x : Tensor) → HasRows P n x → length (rows_of x) ≡ n
rows_many P zero (Word w) h = absurd h
rows_many P zero End h = refl
rows_many P zero (Row a b) h = absurd h
rows_many P (suc n) (Word w) h = absurd h
rows_many P (suc n) End h = absurd h
rows_many P (suc n) (Row a b) h = ap suc (rows_many P n b h.1)

pub rows_count : (d : List ℕ) (x : Tensor) → HasFirst d → HasShape d x → length (rows_of x) ≡ head_of d
rows_count [] x f h = absurd f
rows_count (n ∷ ns) x f h = rows_many (HasShape ns) n x h

all_same : (n : ℕ) (z : Tensor) (i : ℕ) → get_or (copies n z) i z ≡ z
all_same zero z i = refl
all_same (suc n) z zero = refl
all_same (suc n) z (suc i) = all_same n z i

behind : (xs : List Tensor) (n : ℕ) (z : Tensor) (i : ℕ) → get_or (xs ++ copies n z) i z ≡ get_or xs i z
behind [] n z i = all_same n z i
behind (x ∷ xs) n z zero = refl
behind (x ∷ xs) n z (suc i) = behind xs n z i

-- behind all rows there are none
pub rows_behind : (xs : List Tensor) (n : ℕ) (z : Tensor) (i : ℤ) → row_at (xs ++ copies n z) i z ≡ row_at xs i z
rows_behind xs n z (pos i) = behind xs n z i
rows_behind xs n z (negsuc i) = refl

before : (xs : List Tensor) (n : ℕ) (z : Tensor) (i : ℕ) → i < n → get_or (copies n z ++ xs) i z ≡ z
before xs zero z i h = absurd (omega (arith, h))
before xs (suc n) z zero h = refl
before xs (suc n) z (suc i) h = before xs n z i (omega (arith, h))

further : (xs : List Tensor) (n : ℕ) (z : Tensor) (i k : ℕ) → i + n ≡ k → get_or (copies n z ++ xs) k z ≡ get_or xs i z
further xs zero z i k h = let e : k ≡ i = omega (arith, h) in ap (λ j. get_or xs j z) e
further xs (suc n) z i zero h = absurd (omega (arith, h))
further xs (suc n) z i (suc k) h = further xs n z i k (omega (arith, h))

-- behind n rows of zeros
pub rows_further : (xs : List Tensor) (n : ℕ) (z : Tensor) (y i : ℤ) → y +ℤ pos n ≡ i → row_at (copies n z ++ xs) i z ≡ row_at xs y z
rows_further xs n z (pos y) (pos i) h = further xs n z y i (omega (arith, ints, h))
rows_further xs n z (pos y) (negsuc i) h = absurd (omega (arith, ints, h))
rows_further xs n z (negsuc y) (pos i) h = before xs n z i (omega (arith, ints, h))
rows_further xs n z (negsuc y) (negsuc i) h = refl

dropped : (xs : List Tensor) (n : ℕ) (z : Tensor) (i k : ℕ) → k ≡ i + n → get_or xs k z ≡ get_or (drop n xs) i z
dropped xs zero z i k h = let e : k ≡ i = omega (arith, h) in ap (λ j. get_or xs j z) e
dropped [] (suc n) z i k h = refl
dropped (x ∷ xs) (suc n) z i zero h = absurd (omega (arith, h))
dropped (x ∷ xs) (suc n) z i (suc k) h = dropped xs n z i k (omega (arith, h))

-- without the first n rows
pub rows_dropped : (xs : List Tensor) (n : ℕ) (z : Tensor) (y i : ℤ) → y ≡ i +ℤ pos n → pos 0 ≤ℤ i → row_at xs y z ≡ row_at (drop n xs) i z
rows_dropped xs n z (pos y) (pos i) h g = dropped xs n z i y (omega (arith, ints, h))
rows_dropped xs n z (negsuc y) (pos i) h g = absurd (omega (arith, ints, h))
rows_dropped xs n z y (negsuc i) h g = absurd (omega (arith, ints, g))

taken : (xs : List Tensor) (m : ℕ) (z : Tensor) (i : ℕ) → i < m → get_or xs i z ≡ get_or (take m xs) i z
taken xs zero z i h = absurd (omega (arith, h))
taken [] (suc m) z i h = refl
taken (x ∷ xs) (suc m) z zero h = refl
taken (x ∷ xs) (suc m) z (suc i) h = taken xs m z i (omega (arith, h))

-- below m of which the index is short by y + 1
low : (y : ℤ) (i m : ℕ) → y +ℤ (pos i +ℤ pos 1) ≡ pos m → pos 0 ≤ℤ y → i < m
low (pos y) i m h g = omega (arith, ints, h)
low (negsuc y) i m h g = absurd (omega (arith, ints, g))

-- without the last n rows, at one that is left
pub rows_left : (xs : List Tensor) (n : ℕ) (z : Tensor) (y i : ℤ) → y +ℤ (i +ℤ pos 1) ≡ pos (length xs - n) → pos 0 ≤ℤ y
    → row_at xs i z ≡ row_at (drop_last n xs) i z
rows_left xs n z y (pos i) h g = taken xs (length xs - n) z i (low y i (length xs - n) h g)
rows_left xs n z y (negsuc i) h g = refl

first_part : (xs ys : List Tensor) (z : Tensor) (i : ℕ) → i < length xs → get_or xs i z ≡ get_or (xs ++ ys) i z
first_part [] ys z i h = absurd (omega (arith, h))
first_part (x ∷ xs) ys z zero h = refl
first_part (x ∷ xs) ys z (suc i) h = first_part xs ys z i (omega (arith, h))

-- among the rows of the first
pub rows_first : (xs ys : List Tensor) (z : Tensor) (y i : ℤ) → y +ℤ (i +ℤ pos 1) ≡ pos (length xs) → pos 0 ≤ℤ y → row_at xs i z ≡ row_at (xs ++ ys) i z
rows_first xs ys z y (pos i) h g = first_part xs ys z i (low y i (length xs) h g)
rows_first xs ys z y (negsuc i) h g = refl

second_part : (xs ys : List Tensor) (z : Tensor) (i k : ℕ) → i + length xs ≡ k → get_or ys i z ≡ get_or (xs ++ ys) k z
second_part [] ys z i k h = let e : i ≡ k = omega (arith, h) in ap (λ j. get_or ys j z) e
second_part (x ∷ xs) ys z i zero h = absurd (omega (arith, h))
second_part (x ∷ xs) ys z i (suc k) h = second_part xs ys z i k (omega (arith, h))

-- among those of the second
pub rows_second : (xs ys : List Tensor) (z : Tensor) (y i : ℤ) → y +ℤ pos (length xs) ≡ i → pos 0 ≤ℤ y → row_at ys y z ≡ row_at (xs ++ ys) i z
rows_second xs ys z (pos y) (pos i) h g = second_part xs ys z y i (omega (arith, ints, h))
rows_second xs ys z (pos y) (negsuc i) h g = absurd (omega (arith, ints, h))
rows_second xs ys z (negsuc y) i h g = absurd (omega (arith, ints, g))
