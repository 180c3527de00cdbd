-- Sums of tensors by places: a commutative semigroup, in which a zero is idempotent.
use Rattle.std.proofs.Common.{◌≡◌, ℕ, zero, suc, ◌+◌, ◌*◌, ◌%◌, ◌^◌, ◌<◌, List, [], ◌∷◌, ◌++◌, refl, ap, sym, ◌∙◌, arith}
use Rattle.term_tree.specs.Tensors.{Tensor, Word, End, Row, from_rows, plus_places, copies, zeros, tabulate, total}
use Rattle.binders.proofs.Rows.{tabulate-add, same_tabulate}

pub plus_comm : (x y : Tensor) → plus_places x y ≡ plus_places y x
plus_comm (Word a) (Word b) = let e : a + b ≡ b + a = omega arith in λ i. Word (e i % 2 ^ 64)
plus_comm (Word a) End = refl
plus_comm (Word a) (Row b bs) = refl
plus_comm End (Word b) = refl
plus_comm End End = refl
plus_comm End (Row b bs) = refl
plus_comm (Row a as_) (Word b) = refl
plus_comm (Row a as_) End = refl
plus_comm (Row a as_) (Row b bs) = λ i. Row (plus_comm a b i) (plus_comm as_ bs i)

words_assoc : (a b c : ℕ) → ((a + b) % 2 ^ 64 + c) % 2 ^ 64 ≡ (a + (b + c) % 2 ^ 64) % 2 ^ 64
words_assoc a b c = omega arith

pub plus_assoc : (x y z : Tensor) → plus_places (plus_places x y) z ≡ plus_places x (plus_places y z)
plus_assoc (Word a) (Word b) (Word c) = ap Word (words_assoc a b c)
plus_assoc (Word a) (Word b) End = refl
plus_assoc (Word a) (Word b) (Row c cs) = refl
plus_assoc (Word a) End z = refl
plus_assoc (Word a) (Row b bs) (Word c) = refl
plus_assoc (Word a) (Row b bs) End = refl
plus_assoc (Word a) (Row b bs) (Row c cs) = refl
plus_assoc End y z = refl
plus_assoc (Row a as_) (Word b) (Word c) = refl
plus_assoc (Row a as_) (Word b) End = refl
plus_assoc (Row a as_) (Word b) (Row c cs) = refl
plus_assoc (Row a as_) End z = refl
plus_assoc (Row a as_) (Row b bs) (Word c) = refl
plus_assoc (Row a as_) (Row b bs) End = refl
plus_assoc (Row a as_) (Row b bs) (Row c cs) = λ i. Row (plus_assoc a b c i) (plus_assoc as_ bs cs i)

copies_idempotent : (n : ℕ) (z : Tensor) → plus_places z z ≡ z → plus_places (from_rows (copies n z)) (from_rows (copies n z)) ≡ from_rows (copies n z)
copies_idempotent zero z h = refl
copies_idempotent (suc n) z h = λ i. Row (h i) (copies_idempotent n z h i)

pub zeros_idempotent : (ds : List ℕ) → plus_places (zeros ds) (zeros ds) ≡ zeros ds
zeros_idempotent [] = refl
zeros_idempotent (n ∷ ns) = copies_idempotent n (zeros ns) (zeros_idempotent ns)

-- (a + b) + (c + d) is (a + c) + (b + d)
middle : (a b c d : Tensor) → plus_places (plus_places a b) (plus_places c d) ≡ plus_places (plus_places a c) (plus_places b d)
middle a b c d =
    plus_assoc a b (plus_places c d)
    ∙ (λ i. plus_places a ((sym (plus_assoc b c d) ∙ (λ j. plus_places (plus_comm b c j) d) ∙ plus_assoc c b d) i))
    ∙ sym (plus_assoc a c (plus_places b d))

module _ (z : Tensor) (idem : plus_places z z ≡ z) where
  pub total-absorbs : (xs : List Tensor) → plus_places (total z xs) z ≡ total z xs
  total-absorbs [] = idem
  total-absorbs (x ∷ xs) = plus_assoc x (total z xs) z ∙ (λ i. plus_places x (total-absorbs xs i))

  pub total-append : (xs ys : List Tensor) → total z (xs ++ ys) ≡ plus_places (total z xs) (total z ys)
  total-append [] ys = sym (plus_comm z (total z ys) ∙ total-absorbs ys)
  total-append (x ∷ xs) ys = (λ i. plus_places x (total-append xs ys i)) ∙ sym (plus_assoc x (total z xs) (total z ys))

  pub total-zeros : (n : ℕ) → total z (tabulate n (λ i. z)) ≡ z
  total-zeros zero = refl
  total-zeros (suc n) = (λ i. plus_places z (total-zeros n i)) ∙ idem

  pub total-plus : (n : ℕ) (f g : ℕ → Tensor) →
      total z (tabulate n (λ i. plus_places (f i) (g i))) ≡ plus_places (total z (tabulate n f)) (total z (tabulate n g))
  total-plus zero f g = sym idem
  total-plus (suc n) f g =
      (λ i. plus_places (plus_places (f zero) (g zero)) (total-plus n (λ j. f (suc j)) (λ j. g (suc j)) i))
      ∙ middle (f zero) (g zero) (total z (tabulate n (λ j. f (suc j)))) (total z (tabulate n (λ j. g (suc j))))

  pub total-swap : (n m : ℕ) (f : ℕ → ℕ → Tensor) →
      total z (tabulate n (λ i. total z (tabulate m (λ j. f i j)))) ≡ total z (tabulate m (λ j. total z (tabulate n (λ i. f i j))))
  total-swap zero m f = sym (total-zeros m)
  total-swap (suc n) m f =
      (λ l. plus_places (total z (tabulate m (λ j. f zero j))) (total-swap n m (λ i j. f (suc i) j) l))
      ∙ sym (total-plus m (λ j. f zero j) (λ j. total z (tabulate n (λ i. f (suc i) j))))

  pub total-chunks : (k p : ℕ) (g : ℕ → Tensor) → total z (tabulate p (λ i. total z (tabulate k (λ j. g (k * i + j))))) ≡ total z (tabulate (k * p) g)
  total-chunks k zero g = let e : 0 ≡ k * 0 = omega arith in λ j. total z (tabulate (e j) g)
  total-chunks k (suc p) g =
      let first : (j : ℕ) → k * 0 + j ≡ j = λ j. omega arith in
      let next : (i j : ℕ) → k * suc i + j ≡ k + (k * i + j) = λ i j. omega arith in
      let all : k + k * p ≡ k * suc p = omega arith in
      (λ l. plus_places (total z (tabulate k (λ j. g (first j l)))) (total z (tabulate p (λ i. total z (tabulate k (λ j. g (next i j l)))))))
      ∙ (λ l. plus_places (total z (tabulate k g)) (total-chunks k p (λ x. g (k + x)) l))
      ∙ sym (total-append (tabulate k g) (tabulate (k * p) (λ x. g (k + x))))
      ∙ (λ l. total z (sym (tabulate-add k (k * p) g) l))
      ∙ (λ l. total z (tabulate (all l) g))

  -- what is z past m adds nothing
  pub total-front : (m a : ℕ) (g : ℕ → Tensor) → ((i : ℕ) → g (m + i) ≡ z) → total z (tabulate (m + a) g) ≡ total z (tabulate m g)
  total-front m a g h =
      (λ l. total z (tabulate-add m a g l))
      ∙ total-append (tabulate m g) (tabulate a (λ i. g (m + i)))
      ∙ (λ l. plus_places (total z (tabulate m g)) (total z (tabulate a (λ i. h i l))))
      ∙ (λ l. plus_places (total z (tabulate m g)) (total-zeros a l))
      ∙ total-absorbs (tabulate m g)

  -- what is z at all places but one is that one, and z
  pub total-one_place : (n k : ℕ) (g : ℕ → Tensor) → k < n → ((i : ℕ) → (i ≡ k → ⊥) → g i ≡ z) → total z (tabulate n g) ≡ plus_places (g k) z
  total-one_place zero k g l h = absurd (omega (arith, l))
  total-one_place (suc n) zero g l h =
      (λ j. plus_places (g zero) (total z (same_tabulate n (λ i. g (suc i)) (λ i. z) (λ i b. h (suc i) (λ e. absurd (omega (arith, e)))) j)))
      ∙ ap (plus_places (g zero)) (total-zeros n)
  total-one_place (suc n) (suc k) g l h =
      (λ j. plus_places (h zero (λ e. absurd (omega (arith, e))) j)
      (total-one_place n k (λ i. g (suc i)) (omega (arith, l)) (λ i ne. h (suc i) (λ e. ne (omega (arith, e)))) j))
      ∙ plus_comm z (plus_places (g (suc k)) z) ∙ plus_assoc (g (suc k)) z z ∙ ap (plus_places (g (suc k))) idem
