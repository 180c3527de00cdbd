-- Rows of tensors that are padded and cut, joined, split and transposed.
use Rattle.std.proofs.Common.{◌≡◌, ℕ, zero, suc, ◌+◌, ◌-◌, ◌*◌, ◌<◌, ◌≤◌, List, [], ◌∷◌, ◌++◌, drop, take, get_or, length, map, ◌⊎◌}
use Rattle.std.proofs.Common.{inl, inr, refl, ap, sym, ◌∙◌, arith}
use Rattle.std.specs.Prelude.{ℤ, pos, negsuc, ◌+ℤ◌, ◌*ℤ◌}
use Rattle.std.proofs.Math.Seq.{drop-append_seam, take-append_seam}
use Rattle.std.proofs.Math.IntN.{*ℤ_comm}
use Rattle.std.proofs.lemmas.Int.{ints}
use Rattle.binders.proofs.Rows.{columns-again, get_or-tabulate, get_or-tabulate-past, joined-chunks, map-tabulate, same_tabulate, tabulate-same}
use Rattle.term_tree.specs.Meaning.{chunks, columns, row_at}
use Rattle.term_tree.specs.Shaped.{HasRows}
use Rattle.term_tree.specs.Tensors.{End, Row, Tensor, Word, copies, drop_last, from_rows, joined, rows_of, tabulate}
use Rattle.term_tree.proofs.TensorLaws.{rows_of-from_rows}

-- as many rows, each of which P holds of
abbrev pub EachRow : (Tensor → Type 0) → ℕ → List Tensor → Type 0
EachRow P zero [] = Unit {0}
EachRow P (suc n) (x ∷ xs) = P x × EachRow P n xs
EachRow P _ _ = ⊥

module _ (P : Tensor → Type 0) where
  pub each_row : (n : ℕ) (x : Tensor) → HasRows P n x → EachRow P n (rows_of x)
  each_row zero (Word w) h = absurd h
  each_row zero End h = tt
  each_row zero (Row a b) h = absurd h
  each_row (suc n) (Word w) h = absurd h
  each_row (suc n) End h = absurd h
  each_row (suc n) (Row a b) h = (h.0, each_row n b h.1)

  pub each_length : (n : ℕ) (xs : List Tensor) → EachRow P n xs → length xs ≡ n
  each_length zero [] h = refl
  each_length zero (x ∷ xs) h = absurd h
  each_length (suc n) [] h = absurd h
  each_length (suc n) (x ∷ xs) h = ap suc (each_length n xs h.1)

  pub each_get : (n : ℕ) (xs : List Tensor) (i : ℕ) (z : Tensor) → EachRow P n xs → i < n → P (get_or xs i z)
  each_get zero xs i z h l = absurd (omega (arith, l))
  each_get (suc n) [] i z h l = absurd h
  each_get (suc n) (x ∷ xs) zero z h l = h.0
  each_get (suc n) (x ∷ xs) (suc i) z h l = each_get n xs i z h.1 (omega (arith, l))

  -- a tensor of rows is its rows
  pub rows_back : (n : ℕ) (x : Tensor) → HasRows P n x → from_rows (rows_of x) ≡ x
  rows_back zero (Word w) h = absurd h
  rows_back zero End h = refl
  rows_back zero (Row a b) h = absurd h
  rows_back (suc n) (Word w) h = absurd h
  rows_back (suc n) End h = absurd h
  rows_back (suc n) (Row a b) h = ap (Row a) (rows_back n b h.1)

-- a list by its items
pub by_items : (n : ℕ) (xs : List Tensor) (z : Tensor) → length xs ≡ n → xs ≡ tabulate n (λ i. get_or xs i z)
by_items zero [] z h = refl
by_items zero (x ∷ xs) z h = absurd (omega (arith, h))
by_items (suc n) [] z h = absurd (omega (arith, h))
by_items (suc n) (x ∷ xs) z h = ap (λ ys. x ∷ ys) (by_items n xs z (omega (arith, h)))

-- and a tensor by its rows
pub by_rows : (P : Tensor → Type 0) (n : ℕ) (x z : Tensor) → HasRows P n x → x ≡ from_rows (tabulate n (λ i. get_or (rows_of x) i z))
by_rows P n x z h = sym (rows_back P n x h) ∙ ap from_rows (by_items n (rows_of x) z (each_length P n (rows_of x) (each_row P n x h)))

-- one of so many rows of so many rows, by the rows of these
pub by_places : (P : Tensor → Type 0) (n m : ℕ) (x y z : Tensor) → HasRows (HasRows P m) n x
    → x ≡ from_rows (tabulate n (λ i. from_rows (tabulate m (λ j. get_or (rows_of (get_or (rows_of x) i y)) j z))))
by_places P n m x y z h =
    by_rows (HasRows P m) n x y h
    ∙ ap from_rows (same_tabulate n (λ i. get_or (rows_of x) i y) (λ i. from_rows (tabulate m (λ j. get_or (rows_of (get_or (rows_of x) i y)) j z)))
    (λ i l. by_rows P m (get_or (rows_of x) i y) z (each_get (HasRows P m) n (rows_of x) i y (each_row (HasRows P m) n x h) l)))

-- the columns of the columns
pub transposed_twice : (P : Tensor → Type 0) (n m : ℕ) (x y z : Tensor) → HasRows (HasRows P m) n x
    → from_rows (columns n y (rows_of (from_rows (columns m z (rows_of x))))) ≡ x
transposed_twice P n m x y z h =
    let f : ℕ → ℕ → Tensor = λ i j. get_or (rows_of (get_or (rows_of x) i y)) j z in
    let all = tabulate n (λ i. from_rows (tabulate m (f i))) in
    let e : x ≡ from_rows all = by_places P n m x y z h in
    (λ k. from_rows (columns n y (rows_of (from_rows (columns m z (rows_of (e k)))))))
    ∙ (λ k. from_rows (columns n y (rows_of (from_rows (columns m z (rows_of-from_rows all k))))))
    ∙ (λ k. from_rows (columns n y (rows_of-from_rows (columns m z all) k)))
    ∙ ap from_rows (columns-again n m z y f)
    ∙ sym e

length_copies : (n : ℕ) (z : Tensor) → length (copies n z) ≡ n
length_copies zero z = refl
length_copies (suc n) z = ap suc (length_copies n z)

-- rows that are put before others and dropped
pub dropped_copies : (n : ℕ) (z : Tensor) (xs : List Tensor) → drop n (copies n z ++ xs) ≡ xs
dropped_copies n z xs = (λ i. drop (sym (length_copies n z) i) (copies n z ++ xs)) ∙ drop-append_seam (copies n z) xs

length_append : (xs ys : List Tensor) → length (xs ++ ys) ≡ length xs + length ys
length_append [] ys = omega arith
length_append (x ∷ xs) ys = let h = length_append xs ys in omega (arith, h)

-- rows that are put behind others and dropped
pub last_copies : (n : ℕ) (z : Tensor) (xs : List Tensor) → drop_last n (xs ++ copies n z) ≡ xs
last_copies n z xs =
    let e : length (xs ++ copies n z) - n ≡ length xs = omega (arith, length_append xs (copies n z), length_copies n z) in
    (λ i. take (e i) (xs ++ copies n z)) ∙ take-append_seam xs (copies n z)

front : (xs ys : List Tensor) (z : Tensor) (i : ℕ) → i < length xs → get_or (xs ++ ys) i z ≡ get_or xs i z
front [] ys z i h = absurd (omega (arith, h))
front (x ∷ xs) ys z zero h = refl
front (x ∷ xs) ys z (suc i) h = front xs ys z i (omega (arith, h))

-- the rows of the rows in chunks of as many
pub chunks_joined : (P : Tensor → Type 0) (k n : ℕ) (z : Tensor) (xs : List Tensor) → EachRow (HasRows P k) n xs → chunks n k z (joined xs) ≡ xs
chunks_joined P k zero z [] h = refl
chunks_joined P k zero z (x ∷ xs) h = absurd h
chunks_joined P k (suc n) z [] h = absurd h
chunks_joined P k (suc n) z (x ∷ xs) h =
    let many : length (rows_of x) ≡ k = each_length P k (rows_of x) (each_row P k x h.0) in
    let first : from_rows (tabulate k (λ i. get_or (rows_of x ++ joined xs) i z)) ≡ x =
    ap from_rows (same_tabulate k (λ i. get_or (rows_of x ++ joined xs) i z) (λ i. get_or (rows_of x) i z)
    (λ i l. front (rows_of x) (joined xs) z i (omega (arith, l, many)))) ∙ sym (by_rows P k x z h.0) in
    let rest : drop k (rows_of x ++ joined xs) ≡ joined xs = (λ i. drop (sym many i) (rows_of x ++ joined xs)) ∙ drop-append_seam (rows_of x) (joined xs) in
    (λ i. first i ∷ chunks n k z (rest i)) ∙ ap (λ ys. x ∷ ys) (chunks_joined P k n z xs h.1)

behind_some : (k : ℕ) (xs : List Tensor) (z : Tensor) (i : ℕ) → get_or (drop k xs) i z ≡ get_or xs (k + i) z
behind_some zero xs z i = let e : i ≡ 0 + i = omega arith in ap (λ j. get_or xs j z) e
behind_some (suc k) [] z i = refl
behind_some (suc k) (x ∷ xs) z i = behind_some k xs z i ∙ (let e : suc (k + i) ≡ suc k + i = omega arith in ap (λ j. get_or (x ∷ xs) j z) e)

-- chunks by the rows in them
pub chunks_are : (k p : ℕ) (z : Tensor) (xs : List Tensor) → chunks p k z xs ≡ tabulate p (λ i. from_rows (tabulate k (λ j. get_or xs (k * i + j) z)))
chunks_are k zero z xs = refl
chunks_are k (suc p) z xs =
    let first : (j : ℕ) → j ≡ k * 0 + j = λ j. omega arith in
    let next : (i j : ℕ) → k + (k * i + j) ≡ k * suc i + j = λ i j. omega arith in
    (λ l. from_rows (tabulate k (λ j. get_or xs (first j l) z)) ∷ chunks_are k p z (drop k xs) l)
    ∙ (λ l. from_rows (tabulate k (λ j. get_or xs (k * 0 + j) z)) ∷ tabulate p (λ i. from_rows (tabulate k (λ j.
    (behind_some k xs z (k * i + j) ∙ (λ n. get_or xs (next i j n) z)) l))))

-- a list filled up
filled_up : (m : ℕ) (xs : List Tensor) (z : Tensor) (n : ℕ) → length xs + m ≡ n → tabulate n (λ i. get_or xs i z) ≡ xs ++ copies m z
filled_up m [] z n h = let e : n ≡ m = omega (arith, h) in (λ i. tabulate (e i) (λ j. z)) ∙ tabulate-same m z
filled_up m (x ∷ xs) z zero h = absurd (omega (arith, h))
filled_up m (x ∷ xs) z (suc n) h = ap (λ ys. x ∷ ys) (filled_up m xs z n (omega (arith, h)))

-- the rows of chunks that hold all rows
pub joined_chunks : (k p m : ℕ) (z : Tensor) (xs : List Tensor) → length xs + m ≡ k * p → joined (chunks p k z xs) ≡ xs ++ copies m z
joined_chunks k p m z xs h =
    ap joined (chunks_are k p z xs) ∙ joined-chunks k p (λ i. get_or xs i z) ∙ filled_up m xs z (k * p) h

-- past all rows
past : (xs : List Tensor) (z : Tensor) (i : ℕ) → length xs ≤ i → get_or xs i z ≡ z
past [] z i h = refl
past (x ∷ xs) z zero h = absurd (omega (arith, h))
past (x ∷ xs) z (suc i) h = past xs z i (omega (arith, h))

all_same : (n : ℕ) (z : Tensor) (i : ℕ) → get_or (copies n z) i z ≡ z
all_same zero z i = refl
all_same (suc n) z zero = refl
all_same (suc n) z (suc i) = all_same n z i

-- where there is none
pub row_beyond : (xs : List Tensor) (z : Tensor) (i : ℤ) → (k : ℕ) → i ≡ negsuc k → row_at xs i z ≡ z
row_beyond xs z i k h = ap (λ i. row_at xs i z) h

negative_place : (k p j : ℕ) → j < k → (i : ℤ) → i ≡ (pos k *ℤ negsuc p) +ℤ pos j → (n : ℕ) × (i ≡ negsuc n)
negative_place k p j h (pos n) e = absurd (too_large n e)
  where
    at_least : (a b : ℕ) → a ≤ a * suc b
    at_least a b = grind arith

    too_large : (n : ℕ) → pos n ≡ (pos k *ℤ negsuc p) +ℤ pos j → ⊥
    too_large n e = grind (arith, ints, e, h, at_least k p)
negative_place k p j h (negsuc n) e = (n, refl)

-- a chunk by the rows in it
pub chunk_at : (k p : ℕ) (z : Tensor) (xs : List Tensor) → length xs ≤ k * p → (i : ℤ) (at : ℕ → ℤ)
    → ((j : ℕ) → at j ≡ (pos k *ℤ i) +ℤ pos j) → row_at (chunks p k z xs) i (from_rows (copies k z)) ≡ from_rows (tabulate k (λ j. row_at xs (at j) z))
chunk_at k p z xs h (pos i) at e = by (nat_cases i p)
  where
    nat_cases : (i p : ℕ) → (i < p) ⊎ (p ≤ i)
    nat_cases i p = grind arith

    place : (j : ℕ) → at j ≡ pos (k * i + j)
    place j = e j

    more : (a b c : ℕ) → b ≤ c → a * b ≤ a * c
    more a b c l = grind arith

    by : (i < p) ⊎ (p ≤ i) → row_at (chunks p k z xs) (pos i) (from_rows (copies k z)) ≡ from_rows (tabulate k (λ j. row_at xs (at j) z))
    by (inl l) =
        ap (λ ys. get_or ys i (from_rows (copies k z))) (chunks_are k p z xs)
        ∙ get_or-tabulate p (λ i. from_rows (tabulate k (λ j. get_or xs (k * i + j) z))) i (from_rows (copies k z)) l
        ∙ (λ n. from_rows (tabulate k (λ j. row_at xs (sym (place j) n) z)))
    by (inr l) =
        ap (λ ys. get_or ys i (from_rows (copies k z))) (chunks_are k p z xs)
        ∙ get_or-tabulate-past p (λ i. from_rows (tabulate k (λ j. get_or xs (k * i + j) z))) i (from_rows (copies k z)) l
        ∙ (λ n. from_rows (sym (tabulate-same k z) n))
        ∙ (λ n. from_rows (tabulate k (λ j. sym (past xs z (k * i + j) (omega (arith, h, more k p i l))) n)))
        ∙ (λ n. from_rows (tabulate k (λ j. row_at xs (sym (place j) n) z)))
chunk_at k p z xs h (negsuc i) at e =
    (λ n. from_rows (sym (tabulate-same k z) n))
    ∙ ap from_rows (same_tabulate k (λ j. z) (λ j. row_at xs (at j) z)
    (λ j l. let w = negative_place k i j l (at j) (e j) in sym (row_beyond xs z (at j) w.0 w.1)))

-- a column by the rows that it goes through
pub column_at : (P : Tensor → Type 0) (n m : ℕ) (y z : Tensor) (xs : List Tensor) → EachRow (HasRows P m) n xs → (i : ℤ)
    → row_at (columns m z xs) i (from_rows (copies n z)) ≡ from_rows (tabulate n (λ j. row_at (rows_of (get_or xs j y)) i z))
column_at P n m y z xs h (pos i) = by (nat_cases i m)
  where
    nat_cases : (i m : ℕ) → (i < m) ⊎ (m ≤ i)
    nat_cases i m = grind arith

    many : length xs ≡ n
    many = each_length (HasRows P m) n xs h

    by : (i < m) ⊎ (m ≤ i) → row_at (columns m z xs) (pos i) (from_rows (copies n z)) ≡ from_rows (tabulate n (λ j. row_at (rows_of (get_or xs j y)) (pos i) z))
    by (inl l) =
        get_or-tabulate m (λ j. from_rows (map (λ row. get_or (rows_of row) j z) xs)) i (from_rows (copies n z)) l
        ∙ (λ k. from_rows (map (λ row. get_or (rows_of row) i z) (by_items n xs y many k)))
        ∙ ap from_rows (map-tabulate (λ row. get_or (rows_of row) i z) n (λ j. get_or xs j y))
    by (inr l) =
        get_or-tabulate-past m (λ j. from_rows (map (λ row. get_or (rows_of row) j z) xs)) i (from_rows (copies n z)) l
        ∙ (λ k. from_rows (sym (tabulate-same n z) k))
        ∙ ap from_rows (same_tabulate n (λ j. z) (λ j. get_or (rows_of (get_or xs j y)) i z) (λ j b.
        let rows = each_get (HasRows P m) n xs j y h b in
        let count = each_length P m (rows_of (get_or xs j y)) (each_row P m (get_or xs j y) rows) in
        sym (past (rows_of (get_or xs j y)) z i (omega (arith, l, count)))))
column_at P n m y z xs h (negsuc i) = λ k. from_rows (sym (tabulate-same n z) k)

skipped : (xs ys : List Tensor) (z : Tensor) (i k : ℕ) → k ≡ length xs + i → get_or (xs ++ ys) k z ≡ get_or ys i z
skipped [] ys z i k h = let e : k ≡ i = omega (arith, h) in ap (λ j. get_or ys j z) e
skipped (x ∷ xs) ys z i zero h = absurd (omega (arith, h))
skipped (x ∷ xs) ys z i (suc k) h = skipped xs ys z i k (omega (arith, h))

joined_get : (P : Tensor → Type 0) (n m : ℕ) (z : Tensor) (xs : List Tensor) → EachRow (HasRows P m) n xs → (p b k : ℕ) → b < m → k ≡ p * m + b
    → get_or (joined xs) k z ≡ get_or (rows_of (get_or xs p (from_rows (copies m z)))) b z
joined_get P zero m z [] h p b k l e = sym (ap (λ ys. get_or ys b z) (rows_of-from_rows (copies m z)) ∙ all_same m z b)
joined_get P zero m z (x ∷ xs) h p b k l e = absurd h
joined_get P (suc n) m z [] h p b k l e = absurd h
joined_get P (suc n) m z (x ∷ xs) h zero b k l e =
    let many : length (rows_of x) ≡ m = each_length P m (rows_of x) (each_row P m x h.0) in
    let same : k ≡ b = omega (arith, e) in
    ap (λ i. get_or (rows_of x ++ joined xs) i z) same ∙ front (rows_of x) (joined xs) z b (omega (arith, l, many))
joined_get P (suc n) m z (x ∷ xs) h (suc p) b k l e =
    let many : length (rows_of x) ≡ m = each_length P m (rows_of x) (each_row P m x h.0) in
    let place : suc p * m + b ≡ m + (p * m + b) = omega arith in
    skipped (rows_of x) (joined xs) z (p * m + b) k (omega (arith, e, place, many)) ∙ joined_get P n m z xs h.1 p b (p * m + b) l refl

-- a row of the rows
pub joined_at : (P : Tensor → Type 0) (n m : ℕ) (z : Tensor) (xs : List Tensor) → EachRow (HasRows P m) n xs → (a v : ℤ) (b : ℕ) → b < m
    → v ≡ (a *ℤ pos m) +ℤ pos b
    → row_at (rows_of (row_at xs a (from_rows (copies m z)))) (pos b) z ≡ row_at (joined xs) v z
joined_at P n m z xs h (pos p) v b l e =
    let f : v ≡ pos (p * m + b) = e in
    sym (ap (λ i. row_at (joined xs) i z) f ∙ joined_get P n m z xs h p b (p * m + b) l refl)
joined_at P n m z xs h (negsuc p) v b l e =
    let w = negative_place m p b l v (e ∙ turned (negsuc p) (pos m) (pos b)) in
    ap (λ ys. get_or ys b z) (rows_of-from_rows (copies m z)) ∙ all_same m z b ∙ sym (row_beyond (joined xs) z v w.0 w.1)
  where
    turned : (x y w : ℤ) → (x *ℤ y) +ℤ w ≡ (y *ℤ x) +ℤ w
    turned x y w = ap (λ u. u +ℤ w) (*ℤ_comm x y)
