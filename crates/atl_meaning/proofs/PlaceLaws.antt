-- Operations on rows.
use Rattle.std.proofs.Common.{◌≡◌, ℕ, zero, suc, ◌+◌, ◌<◌, ◌≤◌, min, List, [], ◌∷◌, ◌++◌, length, map, take, get_or, refl, ap, sym, ◌∙◌, add-one, arith}
use Rattle.term_tree.specs.Tensors.{Tensor, End, Row, by_places, from_rows}
use Rattle.term_tree.specs.Tensors.{Word as word}
use Rattle.atl_meaning.specs.Operations.{rows_by_places}
use Rattle.atl_meaning.specs.Values.{meant}
use Rattle.atl_meaning.specs.declared.tensor.Tensor.{Tensor as Value}

pub by_places-rows : (f : ℕ → ℕ → ℕ) (xs ys : List Tensor) → by_places f (from_rows xs) (from_rows ys) ≡ from_rows (rows_by_places f xs ys)
by_places-rows f [] [] = refl
by_places-rows f [] (y ∷ ys) = refl
by_places-rows f (x ∷ xs) [] = refl
by_places-rows f (x ∷ xs) (y ∷ ys) = ap (λ z. Row (by_places f x y) z) (by_places-rows f xs ys)

pub by_places-word-rows : (f : ℕ → ℕ → ℕ) (w : ℕ) (ys : List Tensor) → by_places f (word w) (from_rows ys) ≡ End
by_places-word-rows f w [] = refl
by_places-word-rows f w (y ∷ ys) = refl

pub by_places-rows-word : (f : ℕ → ℕ → ℕ) (xs : List Tensor) (w : ℕ) → by_places f (from_rows xs) (word w) ≡ End
by_places-rows-word f [] w = refl
by_places-rows-word f (x ∷ xs) w = refl

pub ruleset place_laws = (by_places-rows, by_places-word-rows, by_places-rows-word)

-- one more row
next-suc : (f : ℕ → ℕ → ℕ) (xs ys : List Value) (k : ℕ) (d e : Value) → k < length xs → k < length ys
    → rows_by_places f (map meant (take (suc k) xs)) (map meant (take (suc k) ys))
    ≡ rows_by_places f (map meant (take k xs)) (map meant (take k ys)) ++ by_places f (meant (get_or xs k d)) (meant (get_or ys k e)) ∷ []
next-suc f [] ys k d e p q = absurd (omega (arith, p))
next-suc f (x ∷ xs) [] k d e p q = absurd (omega (arith, q))
next-suc f (x ∷ xs) (y ∷ ys) zero d e p q = refl
next-suc f (x ∷ xs) (y ∷ ys) (suc k) d e p q =
    ap (λ rows. by_places f (meant x) (meant y) ∷ rows) (next-suc f xs ys k d e (omega (arith, p)) (omega (arith, q)))

pub places-next : (f : ℕ → ℕ → ℕ) (xs ys : List Value) (k : ℕ) (x y : Value) → k < length xs → k < length ys → x ≡ get_or xs k x → y ≡ get_or ys k y
    → rows_by_places f (map meant (take (k + 1) xs)) (map meant (take (k + 1) ys))
    ≡ rows_by_places f (map meant (take k xs)) (map meant (take k ys)) ++ by_places f (meant x) (meant y) ∷ []
places-next f xs ys k x y p q a b =
    ap (λ i. rows_by_places f (map meant (take i xs)) (map meant (take i ys))) (add-one k) ∙ next-suc f xs ys k x y p q
    ∙ (λ i. rows_by_places f (map meant (take k xs)) (map meant (take k ys)) ++ by_places f (meant (sym a i)) (meant (sym b i)) ∷ [])

-- the rows up to the end of the shorter list are all
pub places-all : (f : ℕ → ℕ → ℕ) (xs ys : List Value) (k : ℕ) → min (length xs) (length ys) ≤ k
    → rows_by_places f (map meant (take k xs)) (map meant (take k ys)) ≡ rows_by_places f (map meant xs) (map meant ys)
places-all f [] ys zero h = refl
places-all f [] ys (suc k) h = refl
places-all f (x ∷ xs) [] zero h = refl
places-all f (x ∷ xs) [] (suc k) h = refl
places-all f (x ∷ xs) (y ∷ ys) zero h = absurd (omega (arith, h))
places-all f (x ∷ xs) (y ∷ ys) (suc k) h = ap (λ rows. by_places f (meant x) (meant y) ∷ rows) (places-all f xs ys k (omega (arith, h)))
