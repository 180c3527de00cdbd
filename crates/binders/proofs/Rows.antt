-- Lists made of a function of the index, and rows joined, in chunks and transposed.
use Rattle.std.proofs.Common.{◌≡◌, ℕ, zero, suc, ◌+◌, ◌-◌, ◌*◌, ◌<◌, ◌≤◌, List, [], ◌∷◌, ◌++◌, length, map, drop, take, get_or, refl, ap, sym, ◌∙◌, arith}
use Rattle.std.proofs.Common.{zero-add}
use Rattle.term_tree.proofs.TensorLaws.{rows_of-from_rows}
use Rattle.term_tree.specs.Meaning.{chunks, columns}
use Rattle.term_tree.specs.Tensors.{Tensor, rows_of, from_rows, copies, tabulate, joined, drop_last}

module _ {A : Type 0} where
  pub length-tabulate : (n : ℕ) (f : ℕ → A) → length (tabulate n f) ≡ n
  length-tabulate zero f = refl
  length-tabulate (suc n) f = ap suc (length-tabulate n (λ i. f (suc i)))

  pub get_or-tabulate : (n : ℕ) (f : ℕ → A) (i : ℕ) (d : A) → i < n → get_or (tabulate n f) i d ≡ f i
  get_or-tabulate zero f i d h = absurd (omega (arith, h))
  get_or-tabulate (suc n) f zero d h = refl
  get_or-tabulate (suc n) f (suc i) d h = get_or-tabulate n (λ j. f (suc j)) i d (omega (arith, h))

  -- equal where they are read
  pub same_tabulate : (n : ℕ) (f g : ℕ → A) → ((i : ℕ) → i < n → f i ≡ g i) → tabulate n f ≡ tabulate n g
  same_tabulate zero f g h = refl
  same_tabulate (suc n) f g h = λ j. h zero (omega arith) j ∷ same_tabulate n (λ i. f (suc i)) (λ i. g (suc i)) (λ i l. h (suc i) (omega (arith, l))) j

  pub take-tabulate : (m n : ℕ) (f : ℕ → A) → m ≤ n → take m (tabulate n f) ≡ tabulate m f
  take-tabulate zero n f h = refl
  take-tabulate (suc m) zero f h = absurd (omega (arith, h))
  take-tabulate (suc m) (suc n) f h = λ i. f zero ∷ take-tabulate m n (λ j. f (suc j)) (omega (arith, h)) i

  pub tabulate-add : (m n : ℕ) (f : ℕ → A) → tabulate (m + n) f ≡ tabulate m f ++ tabulate n (λ i. f (m + i))
  tabulate-add zero n f = (λ j. tabulate (zero-add n j) f) ∙ (λ j. tabulate n (λ i. f (sym (zero-add i) j)))
  tabulate-add (suc m) n f =
      let e : suc m + n ≡ suc (m + n) = omega arith in
      let at : (i : ℕ) → suc (m + i) ≡ suc m + i = λ i. omega arith in
      (λ j. tabulate (e j) f) ∙ (λ j. f zero ∷ tabulate-add m n (λ i. f (suc i)) j)
      ∙ (λ j. f zero ∷ (tabulate m (λ i. f (suc i)) ++ tabulate n (λ i. f (at i j))))

  pub drop_last-tabulate : (a m n : ℕ) (f : ℕ → A) → m + a ≡ n → drop_last a (tabulate n f) ≡ tabulate m f
  drop_last-tabulate a m n f h =
      let e : n - a ≡ m = omega arith in
      (λ j. take (length-tabulate n f j - a) (tabulate n f)) ∙ (λ j. take (e j) (tabulate n f)) ∙ take-tabulate m n f (omega arith)

-- rows in chunks of k, joined
pub joined-chunks : (k p : ℕ) (g : ℕ → Tensor) → joined (tabulate p (λ i. from_rows (tabulate k (λ j. g (k * i + j))))) ≡ tabulate (k * p) g
joined-chunks k zero g = let e : 0 ≡ k * 0 = omega arith in λ j. tabulate (e j) g
joined-chunks k (suc p) g =
    let first : (j : ℕ) → k * 0 + j ≡ j = λ j. omega arith in
    let next : (i j : ℕ) → k * suc i + j ≡ k + (k * i + j) = λ i j. omega arith in
    let all : k + k * p ≡ k * suc p = omega arith in
    (λ l. rows_of-from_rows (tabulate k (λ j. g (first j l))) l ++ joined (tabulate p (λ i. from_rows (tabulate k (λ j. g (next i j l))))))
    ∙ (λ l. tabulate k g ++ joined-chunks k p (λ x. g (k + x)) l)
    ∙ sym (tabulate-add k (k * p) g)
    ∙ (λ l. tabulate (all l) g)

module _ {A : Type 0} where
  pub get_or-tabulate-past : (n : ℕ) (f : ℕ → A) (i : ℕ) (d : A) → n ≤ i → get_or (tabulate n f) i d ≡ d
  get_or-tabulate-past zero f i d h = refl
  get_or-tabulate-past (suc n) f zero d h = absurd (omega (arith, h))
  get_or-tabulate-past (suc n) f (suc i) d h = get_or-tabulate-past n (λ j. f (suc j)) i d (omega (arith, h))

  pub tabulate-same : (n : ℕ) (x : A) → tabulate n (λ i. x) ≡ copies n x
  tabulate-same zero x = refl
  tabulate-same (suc n) x = λ i. x ∷ tabulate-same n x i

  pub map-tabulate : {B : Type 0} (g : A → B) (n : ℕ) (f : ℕ → A) → map g (tabulate n f) ≡ tabulate n (λ i. g (f i))
  map-tabulate g zero f = refl
  map-tabulate g (suc n) f = λ i. g (f zero) ∷ map-tabulate g n (λ j. f (suc j)) i

  pub drop-tabulate : (m n : ℕ) (f : ℕ → A) → drop m (tabulate (m + n) f) ≡ tabulate n (λ i. f (m + i))
  drop-tabulate m n f = ap (drop m) (tabulate-add m n f) ∙ drop-front m (tabulate m f) (tabulate n (λ i. f (m + i))) (length-tabulate m f)
    where
      drop-front : (m : ℕ) (xs ys : List A) → length xs ≡ m → drop m (xs ++ ys) ≡ ys
      drop-front zero [] ys e = refl
      drop-front (suc m) [] ys e = absurd (omega (arith, e))
      drop-front zero (x ∷ xs) ys e = absurd (omega (arith, e))
      drop-front (suc m) (x ∷ xs) ys e = drop-front m xs ys (omega (arith, e))

-- chunks of k rows of a list that has them all
pub chunks-tabulate : (k p : ℕ) (z : Tensor) (g : ℕ → Tensor)
    → chunks p k z (tabulate (k * p) g) ≡ tabulate p (λ i. from_rows (tabulate k (λ j. g (k * i + j))))
chunks-tabulate k zero z g = refl
chunks-tabulate k (suc p) z g =
    let first : (j : ℕ) → k * 0 + j ≡ j = λ j. omega arith in
    let next : (i j : ℕ) → k * suc i + j ≡ k + (k * i + j) = λ i j. omega arith in
    let all : k * suc p ≡ k + k * p = omega arith in
    (λ l. from_rows (tabulate k (λ i. get_or (tabulate (all l) g) i z)) ∷ chunks p k z (drop k (tabulate (all l) g)))
    ∙ (λ l.
    from_rows (same_tabulate k (λ i. get_or (tabulate (k + k * p) g) i z) g (λ i b. get_or-tabulate (k + k * p) g i z (omega (arith, b))) l)
    ∷ chunks p k z (drop-tabulate k (k * p) g l))
    ∙ (λ l. from_rows (tabulate k g) ∷ chunks-tabulate k p z (λ x. g (k + x)) l)
    ∙ (λ l. from_rows (tabulate k (λ j. g (sym (first j) l))) ∷ tabulate p (λ i. from_rows (tabulate k (λ j. g (sym (next i j) l)))))

-- the columns of rows are the rows of the columns
pub columns-tabulate : (n m : ℕ) (z : Tensor) (f : ℕ → ℕ → Tensor) →
    columns m z (tabulate n (λ i. from_rows (tabulate m (f i)))) ≡ tabulate m (λ j. from_rows (tabulate n (λ i. f i j)))
columns-tabulate n m z f =
    same_tabulate m (λ j. from_rows (map (λ row. get_or (rows_of row) j z) (tabulate n (λ i. from_rows (tabulate m (f i))))))
    (λ j. from_rows (tabulate n (λ i. f i j)))
    (λ j b. ap from_rows (map-tabulate (λ row. get_or (rows_of row) j z) n (λ i. from_rows (tabulate m (f i))))
    ∙ (λ l. from_rows (tabulate n (λ i. (ap (λ rows. get_or rows j z) (rows_of-from_rows (tabulate m (f i))) ∙ get_or-tabulate m (f i) j z b) l))))

-- transposed twice
pub columns-again : (n m : ℕ) (z y : Tensor) (f : ℕ → ℕ → Tensor) →
    columns n y (columns m z (tabulate n (λ i. from_rows (tabulate m (f i))))) ≡ tabulate n (λ i. from_rows (tabulate m (f i)))
columns-again n m z y f = ap (columns n y) (columns-tabulate n m z f) ∙ columns-tabulate m n y (λ j i. f i j)
