-- Each operation on rows gives a tensor of the extents that its shape rule tells.
use Rattle.std.proofs.Common.{◌≡◌, ℕ, zero, suc, ◌+◌, ◌-◌, ◌*◌, ◌/◌, List, [], ◌∷◌, ◌++◌, length, map, drop, take, get_or, refl, ap, sym, subst, arith}
use Rattle.std.proofs.Common.{zero-add}
use Rattle.std.specs.Prelude.{ℤ, pos, negsuc}
use Rattle.term_tree.specs.Tensors.{Tensor, Word, End, Row, rows_of, from_rows, by_places, copies, zeros, tabulate, total, joined, drop_last}
use Rattle.term_tree.specs.Meaning.{head_of, tail_of, row_at, chunks, columns}
use Rattle.term_tree.specs.Shaped.{HasRows, HasShape}
use Rattle.shape_rules.specs.Fits.{HasFirst, HasTwo}

-- lists of a length
module _ {A : Type 0} (P : A → Type 0) where
  -- as many elements, each of which P holds of
  pub data Listed : ℕ → List A → Type 0 where
    none : Listed zero []
    one : {n : ℕ} {x : A} {xs : List A} → P x → Listed n xs → Listed (suc n) (x ∷ xs)

  pub listed_append : (m n : ℕ) (xs ys : List A) → Listed m xs → Listed n ys → Listed (m + n) (xs ++ ys)
  listed_append zero n [] ys none k = subst (λ (i : ℕ). Listed i ys) (sym (zero-add n)) k
  listed_append zero n (x ∷ xs) ys h k = elim h [ ]
  listed_append (suc m) n [] ys h k = elim h [ ]
  listed_append (suc m) n (x ∷ xs) ys (one p h) k =
      let e : suc (m + n) ≡ suc m + n = omega arith in
      subst (λ (i : ℕ). Listed i (x ∷ (xs ++ ys))) e (one p (listed_append m n xs ys h k))

  pub listed_copies : (n : ℕ) (x : A) → P x → Listed n (copies n x)
  listed_copies zero x p = none
  listed_copies (suc n) x p = one p (listed_copies n x p)

  pub listed_tabulate : (n : ℕ) (f : ℕ → A) → ((i : ℕ) → P (f i)) → Listed n (tabulate n f)
  listed_tabulate zero f h = none
  listed_tabulate (suc n) f h = one (h zero) (listed_tabulate n (λ i. f (suc i)) (λ i. h (suc i)))

  pub listed_get : (n : ℕ) (xs : List A) (i : ℕ) (d : A) → Listed n xs → P d → P (get_or xs i d)
  listed_get zero [] i d none p = p
  listed_get zero (x ∷ xs) i d h p = elim h [ ]
  listed_get (suc n) [] i d h p = elim h [ ]
  listed_get (suc n) (x ∷ xs) zero d (one q h) p = q
  listed_get (suc n) (x ∷ xs) (suc i) d (one q h) p = listed_get n xs i d h p

  pub listed_drop : (a n : ℕ) (xs : List A) → Listed n xs → Listed (n - a) (drop a xs)
  listed_drop zero n xs h = let e : n ≡ n - 0 = omega arith in subst (λ (i : ℕ). Listed i xs) e h
  listed_drop (suc a) zero [] none = let e : 0 ≡ zero - suc a = omega arith in subst (λ (i : ℕ). Listed i []) e none
  listed_drop (suc a) zero (x ∷ xs) h = elim h [ ]
  listed_drop (suc a) (suc n) [] h = elim h [ ]
  listed_drop (suc a) (suc n) (x ∷ xs) (one p h) =
      let e : n - a ≡ suc n - suc a = omega arith in
      subst (λ (i : ℕ). Listed i (drop a xs)) e (listed_drop a n xs h)

  pub listed_length : (n : ℕ) (xs : List A) → Listed n xs → length xs ≡ n
  listed_length zero [] none = refl
  listed_length zero (x ∷ xs) h = elim h [ ]
  listed_length (suc n) [] h = elim h [ ]
  listed_length (suc n) (x ∷ xs) (one p h) = ap suc (listed_length n xs h)

  pub listed_take : (m n a : ℕ) (xs : List A) → m + a ≡ n → Listed n xs → Listed m (take m xs)
  listed_take zero n a xs e h = none
  listed_take (suc m) zero a [] e none = absurd (omega (arith, e))
  listed_take (suc m) zero a (x ∷ xs) e h = elim h [ ]
  listed_take (suc m) (suc n) a [] e h = elim h [ ]
  listed_take (suc m) (suc n) a (x ∷ xs) e (one p h) = one p (listed_take m n a xs (omega (arith, e)) h)

listed_map : {A B : Type 0} (P : A → Type 0) (Q : B → Type 0) (f : A → B) → ((x : A) → P x → Q (f x)) → (n : ℕ) (xs : List A) → Listed P n xs
    → Listed Q n (map f xs)
listed_map P Q f h zero [] none = none
listed_map P Q f h zero (x ∷ xs) k = elim k [ ]
listed_map P Q f h (suc n) [] k = elim k [ ]
listed_map P Q f h (suc n) (x ∷ xs) (one p k) = one (h x p) (listed_map P Q f h n xs k)

-- rows and lists of rows
module _ (P : Tensor → Type 0) where
  pub rows_listed : (n : ℕ) (x : Tensor) → HasRows P n x → Listed P n (rows_of x)
  rows_listed zero (Word w) h = absurd h
  rows_listed zero End h = none
  rows_listed zero (Row a rest) h = absurd h
  rows_listed (suc n) (Word w) h = absurd h
  rows_listed (suc n) End h = absurd h
  rows_listed (suc n) (Row a rest) h = one h.0 (rows_listed n rest h.1)

  pub listed_rows : (n : ℕ) (xs : List Tensor) → Listed P n xs → HasRows P n (from_rows xs)
  listed_rows zero [] none = tt
  listed_rows zero (x ∷ xs) h = elim h [ ]
  listed_rows (suc n) [] h = elim h [ ]
  listed_rows (suc n) (x ∷ xs) (one p h) = (p, listed_rows n xs h)

pub zeros_shape : (d : List ℕ) → HasShape d (zeros d)
zeros_shape [] = tt
zeros_shape (n ∷ d) = listed_rows (HasShape d) n (copies n (zeros d)) (listed_copies (HasShape d) n (zeros d) (zeros_shape d))

module _ (f : ℕ → ℕ → ℕ) where
  places_rows : (P : Tensor → Type 0) → ((x y : Tensor) → P x → P y → P (by_places f x y)) → (n : ℕ) (x y : Tensor) →
      HasRows P n x → HasRows P n y → HasRows P n (by_places f x y)
  places_rows P h zero (Word w) y a b = absurd a
  places_rows P h zero (Row x xs) y a b = absurd a
  places_rows P h zero End y a b = tt
  places_rows P h (suc n) (Word w) y a b = absurd a
  places_rows P h (suc n) End y a b = absurd a
  places_rows P h (suc n) (Row x xs) (Word w) a b = absurd b
  places_rows P h (suc n) (Row x xs) End a b = absurd b
  places_rows P h (suc n) (Row x xs) (Row y ys) a b = (h x y a.0 b.0, places_rows P h n xs ys a.1 b.1)

  pub places_shape : (d : List ℕ) (x y : Tensor) → HasShape d x → HasShape d y → HasShape d (by_places f x y)
  places_shape [] (Word v) (Word w) a b = tt
  places_shape [] (Word v) End a b = absurd b
  places_shape [] (Word v) (Row x xs) a b = absurd b
  places_shape [] End y a b = absurd a
  places_shape [] (Row x xs) y a b = absurd a
  places_shape (n ∷ d) x y a b = places_rows (HasShape d) (places_shape d) n x y a b

pub total_shape : (d : List ℕ) (n : ℕ) (g : ℕ → Tensor) → ((i : ℕ) → HasShape d (g i)) → HasShape d (total (zeros d) (tabulate n g))
total_shape d zero g h = zeros_shape d
total_shape d (suc n) g h = places_shape _ d (g zero) (total (zeros d) (tabulate n (λ i. g (suc i)))) (h zero)
    (total_shape d n (λ i. g (suc i)) (λ i. h (suc i)))

-- each operation on rows, at extents of enough rank
pub row_shape : (d : List ℕ) (x : Tensor) (i : ℤ) → HasFirst d → HasShape d x → HasShape (tail_of d) (row_at (rows_of x) i (zeros (tail_of d)))
row_shape [] x i f h = absurd f
row_shape (n ∷ d) x (pos i) f h = listed_get (HasShape d) n (rows_of x) i (zeros d) (rows_listed (HasShape d) n x h) (zeros_shape d)
row_shape (n ∷ d) x (negsuc i) f h = zeros_shape d

pub concat_shape : (d e : List ℕ) (x y : Tensor) → HasFirst d → HasFirst e → tail_of e ≡ tail_of d → HasShape d x → HasShape e y →
    HasShape ((head_of d + head_of e) ∷ tail_of d) (from_rows (rows_of x ++ rows_of y))
concat_shape [] e x y f g t a b = absurd f
concat_shape (n ∷ d) [] x y f g t a b = absurd g
concat_shape (n ∷ d) (m ∷ e) x y f g t a b =
    let c : HasShape (m ∷ d) y = subst (λ (e : List ℕ). HasShape (m ∷ e) y) t b in
    listed_rows (HasShape d) (n + m) _
    (listed_append (HasShape d) n m (rows_of x) (rows_of y) (rows_listed (HasShape d) n x a) (rows_listed (HasShape d) m y c))

joined_listed : (P : Tensor → Type 0) (n m : ℕ) (xs : List Tensor) → Listed (HasRows P m) n xs → Listed P (n * m) (joined xs)
joined_listed P zero m [] none = let e : 0 ≡ zero * m = omega arith in subst (λ (i : ℕ). Listed P i []) e none
joined_listed P zero m (x ∷ xs) h = elim h [ ]
joined_listed P (suc n) m [] h = elim h [ ]
joined_listed P (suc n) m (x ∷ xs) (one p h) =
    let e : m + n * m ≡ suc n * m = omega arith in
    subst (λ (i : ℕ). Listed P i (rows_of x ++ joined xs)) e
    (listed_append P m (n * m) (rows_of x) (joined xs) (rows_listed P m x p) (joined_listed P n m xs h))

pub flatten_shape : (d : List ℕ) (x : Tensor) → HasTwo d → HasShape d x →
    HasShape ((head_of d * head_of (tail_of d)) ∷ tail_of (tail_of d)) (from_rows (joined (rows_of x)))
flatten_shape [] x f h = absurd f
flatten_shape (n ∷ []) x f h = absurd f
flatten_shape (n ∷ m ∷ d) x f h = listed_rows (HasShape d) (n * m) _ (joined_listed (HasShape d) n m (rows_of x) (rows_listed (HasShape (m ∷ d)) n x h))

chunks_listed : (P : Tensor → Type 0) (z : Tensor) → P z → (p k n : ℕ) (xs : List Tensor) → Listed P n xs → Listed (HasRows P k) p (chunks p k z xs)
chunks_listed P z q zero k n xs h = none
chunks_listed P z q (suc p) k n xs h =
    one (listed_rows P k _ (listed_tabulate P k (λ i. get_or xs i z) (λ i. listed_get P n xs i z h q)))
    (chunks_listed P z q p k (n - k) (drop k xs) (listed_drop P k n xs h))

pub split_shape : (k : ℕ) (d : List ℕ) (x : Tensor) → HasFirst d → HasShape d x →
    HasShape (((head_of d + k - 1) / k) ∷ k ∷ tail_of d) (from_rows (chunks ((head_of d + k - 1) / k) k (zeros (tail_of d)) (rows_of x)))
split_shape k [] x f h = absurd f
split_shape k (n ∷ d) x f h =
    listed_rows (HasShape (k ∷ d)) ((n + k - 1) / k) _
    (chunks_listed (HasShape d) (zeros d) (zeros_shape d) ((n + k - 1) / k) k n (rows_of x) (rows_listed (HasShape d) n x h))

pub transpose_shape : (d : List ℕ) (x : Tensor) → HasTwo d → HasShape d x →
    HasShape (head_of (tail_of d) ∷ head_of d ∷ tail_of (tail_of d)) (from_rows (columns (head_of (tail_of d)) (zeros (tail_of (tail_of d))) (rows_of x)))
transpose_shape [] x f h = absurd f
transpose_shape (n ∷ []) x f h = absurd f
transpose_shape (n ∷ m ∷ d) x f h =
    listed_rows (HasShape (n ∷ d)) m _ (listed_tabulate (HasShape (n ∷ d)) m _ (λ j. listed_rows (HasShape d) n _
    (listed_map (HasShape (m ∷ d)) (HasShape d) (λ row. get_or (rows_of row) j (zeros d))
    (λ row k. listed_get (HasShape d) m (rows_of row) j (zeros d) (rows_listed (HasShape d) m row k) (zeros_shape d))
    n (rows_of x) (rows_listed (HasShape (m ∷ d)) n x h))))

pub drop_shape : (a : ℕ) (d : List ℕ) (x : Tensor) → HasFirst d → HasShape d x → HasShape ((head_of d - a) ∷ tail_of d) (from_rows (drop a (rows_of x)))
drop_shape a [] x f h = absurd f
drop_shape a (n ∷ d) x f h = listed_rows (HasShape d) (n - a) _ (listed_drop (HasShape d) a n (rows_of x) (rows_listed (HasShape d) n x h))

take_some : (P : Tensor → Type 0) (m n : ℕ) (xs : List Tensor) → Listed P n xs → Listed P (n - m) (take (n - m) xs)
take_some P m n xs h = listed_take P (n - m) n (n - (n - m)) xs (omega arith) h

pub drop_last_shape : (a : ℕ) (d : List ℕ) (x : Tensor) → HasFirst d → HasShape d x
    → HasShape ((head_of d - a) ∷ tail_of d) (from_rows (drop_last a (rows_of x)))
drop_last_shape a [] x f h = absurd f
drop_last_shape a (n ∷ d) x f h =
    let l = rows_listed (HasShape d) n x h in
    listed_rows (HasShape d) (n - a) _
    (subst (λ (k : ℕ). Listed (HasShape d) (n - a) (take (k - a) (rows_of x))) (sym (listed_length (HasShape d) n (rows_of x) l))
    (take_some (HasShape d) a n (rows_of x) l))

pub pad_l_shape : (a : ℕ) (d : List ℕ) (x : Tensor) → HasFirst d → HasShape d x
    → HasShape ((head_of d + a) ∷ tail_of d) (from_rows (copies a (zeros (tail_of d)) ++ rows_of x))
pad_l_shape a [] x f h = absurd f
pad_l_shape a (n ∷ d) x f h =
    let e : a + n ≡ n + a = omega arith in
    listed_rows (HasShape d) (n + a) _ (subst (λ (k : ℕ). Listed (HasShape d) k (copies a (zeros d) ++ rows_of x)) e
    (listed_append (HasShape d) a n _ _ (listed_copies (HasShape d) a (zeros d) (zeros_shape d)) (rows_listed (HasShape d) n x h)))

pub pad_r_shape : (a : ℕ) (d : List ℕ) (x : Tensor) → HasFirst d → HasShape d x
    → HasShape ((head_of d + a) ∷ tail_of d) (from_rows (rows_of x ++ copies a (zeros (tail_of d))))
pad_r_shape a [] x f h = absurd f
pad_r_shape a (n ∷ d) x f h =
    listed_rows (HasShape d) (n + a) _
    (listed_append (HasShape d) n a _ _ (rows_listed (HasShape d) n x h) (listed_copies (HasShape d) a (zeros d) (zeros_shape d)))
