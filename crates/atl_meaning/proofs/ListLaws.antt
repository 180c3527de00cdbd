-- Lists that grow at their end.
use Rattle.std.proofs.Common.{◌≡◌, ℕ, zero, suc, ◌+◌, List, [], ◌∷◌, ◌++◌, ◌-◌, ◌<◌, ◌≤◌, ℤ, pos, negsuc, length, get_or, take, drop, map, append_assoc}
use Rattle.std.proofs.Common.{append-nil, arith, refl, ap, sym, ◌∙◌, add-one}
use Rattle.atl_meaning.specs.Lists.{rest_of}
use Rattle.term_tree.specs.Tensors.{Tensor, copies, drop_last, from_rows, joined, plus_places, rows_of, tabulate, total, zeros}
use Rattle.term_tree.specs.Meaning.{chunks, columns, row_at, tail_of}
use Rattle.term_tree.proofs.TensorLaws.{rows_of-from_rows}
use Rattle.atl_meaning.specs.declared.tensor.Tensor.{Tensor as Value}

-- one more entry at the end
tabulate-suc : {A : Type 0} → (n : ℕ) (f : ℕ → A) → tabulate (suc n) f ≡ tabulate n f ++ f n ∷ []
tabulate-suc zero f = refl
tabulate-suc (suc n) f = ap (λ xs. f zero ∷ xs) (tabulate-suc n (λ i. f (suc i)))

pub tabulate-last : {A : Type 0} → (n : ℕ) (f : ℕ → A) → tabulate (n + 1) f ≡ tabulate n f ++ f n ∷ []
tabulate-last n f = ap (λ k. tabulate k f) (add-one n) ∙ tabulate-suc n f

copies-suc : {A : Type 0} → (n : ℕ) (x : A) → copies (suc n) x ≡ copies n x ++ x ∷ []
copies-suc zero x = refl
copies-suc (suc n) x = ap (λ xs. x ∷ xs) (copies-suc n x)

pub copies-last : {A : Type 0} → (n : ℕ) (x : A) → copies (n + 1) x ≡ copies n x ++ x ∷ []
copies-last n x = ap (λ k. copies k x) (add-one n) ∙ copies-suc n x

pub map-last : {A B : Type 0} → (f : A → B) (xs : List A) (x : A) → map f (xs ++ x ∷ []) ≡ map f xs ++ f x ∷ []
map-last f [] x = refl
map-last f (y ∷ xs) x = ap (λ ys. f y ∷ ys) (map-last f xs x)

pub rest_of-drop : {A : Type 0} → (n : ℕ) (xs : List A) → drop (n + 1) xs ≡ rest_of (drop n xs)
rest_of-drop n xs = ap (λ k. drop k xs) (add-one n) ∙ by n xs
  where
    by : {A : Type 0} → (n : ℕ) (xs : List A) → drop (suc n) xs ≡ rest_of (drop n xs)
    by zero [] = refl
    by zero (x ∷ xs) = refl
    by (suc n) [] = refl
    by (suc n) (x ∷ xs) = by n xs

pub map-drop : {A B : Type 0} → (f : A → B) (n : ℕ) (xs : List A) → map f (drop n xs) ≡ drop n (map f xs)
map-drop f zero xs = refl
map-drop f (suc n) [] = refl
map-drop f (suc n) (x ∷ xs) = map-drop f n xs

map-take : {A B : Type 0} → (f : A → B) (n : ℕ) (xs : List A) → map f (take n xs) ≡ take n (map f xs)
map-take f zero xs = refl
map-take f (suc n) [] = refl
map-take f (suc n) (x ∷ xs) = ap (λ ys. f x ∷ ys) (map-take f n xs)

map-length : {A B : Type 0} → (f : A → B) (xs : List A) → length (map f xs) ≡ length xs
map-length f [] = refl
map-length f (x ∷ xs) = ap suc (map-length f xs)

pub map-drop_last : {A B : Type 0} → (f : A → B) (n : ℕ) (xs : List A) → map f (drop_last n xs) ≡ drop_last n (map f xs)
map-drop_last f n xs = map-take f (length xs - n) xs ∙ ap (λ k. take (k - n) (map f xs)) (sym (map-length f xs))

joined-suc : (f : Value → Tensor) (xs : List Value) (k : ℕ) (x : Value) → k < length xs
    → joined (map f (take (suc k) xs)) ≡ joined (map f (take k xs)) ++ rows_of (f (get_or xs k x))
joined-suc f [] k x h = absurd (omega (arith, h))
joined-suc f (y ∷ xs) zero x h = append-nil (rows_of (f y))
joined-suc f (y ∷ xs) (suc k) x h = ap (λ zs. rows_of (f y) ++ zs) (joined-suc f xs k x (omega (arith, h)))
    ∙ sym (append_assoc (rows_of (f y)) (joined (map f (take k xs))) (rows_of (f (get_or xs k x))))

pub joined-next : (f : Value → Tensor) (xs : List Value) (k : ℕ) (x : Value) → k < length xs → x ≡ get_or xs k x
    → joined (map f (take (k + 1) xs)) ≡ joined (map f (take k xs)) ++ rows_of (f x)
joined-next f xs k x h e = ap (λ i. joined (map f (take i xs))) (add-one k) ∙ joined-suc f xs k x h
    ∙ ap (λ y. joined (map f (take k xs)) ++ rows_of (f y)) (sym e)

-- no row of a zero tensor is another than zeros
pub zeros-row : (ds : List ℕ) (i : ℤ) → row_at (rows_of (zeros ds)) i (zeros (tail_of ds)) ≡ zeros (tail_of ds)
zeros-row [] (pos i) = refl
zeros-row [] (negsuc i) = refl
zeros-row (n ∷ ds) (negsuc i) = refl
zeros-row (n ∷ ds) (pos i) = ap (λ rows. get_or rows i (zeros ds)) (rows_of-from_rows (copies n (zeros ds))) ∙ copy_at n i (zeros ds)
  where
    copy_at : {A : Type 0} → (n i : ℕ) (x : A) → get_or (copies n x) i x ≡ x
    copy_at zero i x = refl
    copy_at (suc n) zero x = refl
    copy_at (suc n) (suc i) x = copy_at n i x

-- the sum of one more entry before those from k on
pub total-next : (z : Tensor) (f : ℕ → Tensor) (n k : ℕ) → k < n
    → total z (tabulate (n - k) (λ j. f (k + j))) ≡ plus_places (f k) (total z (tabulate (n - (k + 1)) (λ j. f ((k + 1) + j))))
total-next z f n k h =
    let e : n - k ≡ suc (n - (k + 1)) = omega arith in
    ap (λ m. total z (tabulate m (λ j. f (k + j)))) e
    ∙ (λ i. plus_places (f (first k i)) (total z (tabulate (n - (k + 1)) (λ j. f (later k j i)))))
  where
    first : (k : ℕ) → k + zero ≡ k
    first k = omega arith

    later : (k j : ℕ) → k + suc j ≡ (k + 1) + j
    later k j = omega arith

pub total-all : (z : Tensor) (f : ℕ → Tensor) (n : ℕ) → total z (tabulate (n - 0) (λ j. f (0 + j))) ≡ total z (tabulate n f)
total-all z f n = (λ i. total z (tabulate (none n i) (λ j. f (zeroth j i))))
  where
    none : (n : ℕ) → n - 0 ≡ n
    none n = omega arith

    zeroth : (j : ℕ) → 0 + j ≡ j
    zeroth j = omega arith

pub columns-last : (n : ℕ) (z : Tensor) (rows : List Tensor)
    → columns (n + 1) z rows ≡ columns n z rows ++ from_rows (map (λ row. get_or (rows_of row) n z) rows) ∷ []
columns-last n z rows = tabulate-last n (λ j. from_rows (map (λ row. get_or (rows_of row) j z) rows))

-- the next chunk of those that are left
pub chunks-next : (n c k : ℕ) (z : Tensor) (rows : List Tensor) → c < n
    → chunks (n - c) k z rows ≡ from_rows (tabulate k (λ i. get_or rows i z)) ∷ chunks (n - (c + 1)) k z (drop k rows)
chunks-next n c k z rows h = let e : n - c ≡ suc (n - (c + 1)) = omega arith in ap (λ m. chunks m k z rows) e

-- the item at a place, and those behind it
pub drop-next : {A : Type 0} → (xs : List A) (k : ℕ) (x : A) → k < length xs → x ≡ get_or xs k x → drop k xs ≡ x ∷ drop (k + 1) xs
drop-next xs k x h e = by xs k x h ∙ (λ i. sym e i ∷ drop (sym (add-one k) i) xs)
  where
    by : {A : Type 0} → (xs : List A) (k : ℕ) (x : A) → k < length xs → drop k xs ≡ get_or xs k x ∷ drop (suc k) xs
    by [] k x h = absurd (omega (arith, h))
    by (y ∷ xs) zero x h = refl
    by (y ∷ xs) (suc k) x h = by xs k x (omega (arith, h))

pub drop-whole : {A : Type 0} → (xs : List A) (k : ℕ) → length xs ≤ k → drop k xs ≡ []
drop-whole [] zero h = refl
drop-whole [] (suc k) h = refl
drop-whole (x ∷ xs) zero h = absurd (omega (arith, h))
drop-whole (x ∷ xs) (suc k) h = drop-whole xs k (omega (arith, h))

pub ruleset last_laws = (tabulate-last, copies-last, map-last, rows_of-from_rows)
