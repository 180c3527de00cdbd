-- Row-order places: of two tuples within the extents they are different and below the number of words.
use Rattle.std.proofs.Common.{◌≡◌, ℕ, zero, suc, ◌+◌, ◌*◌, ◌%◌, ◌^◌, ◌<◌, List, [], ◌∷◌, ◌++◌, length, get_or, set, replicate, Some, refl, sym, ap, ◌∙◌, subst}
use Rattle.std.proofs.Common.{arith, length-append, append_assoc}
use Rattle.std.proofs.lemmas.Nat.{mul-add-lt, same_from_place}
use Rattle.std.proofs.Math.Nat.{mul_comm, mod-eq_of_lt}
use Rattle.std.proofs.lemmas.List.{get_or-append-add, get_or_append_left, get_or_at, set_at, replicate-append-replicate, append-nil}
use Rattle.term_tree.specs.Tensors.{Tensor, Word, End, Row, rows_of}
use Rattle.term_tree.specs.Shaped.{HasRows, HasShape, HasWords, flat, word_count}
use Rattle.lowering_laws.specs.Scatter.{placed, under, later, scatter}
use Rattle.lowering_laws.proofs.Algebra.{ext, Within}

-- the place of a tuple in row order
abbrev pub place : List ℕ → List ℕ → ℕ
place [] ix = 0
place (d ∷ ds) [] = 0
place (d ∷ ds) (i ∷ ix) = i * word_count ds + place ds ix

pub placed-is : (at : ℕ) (ds ix : List ℕ) → Within ds ix → placed at ds ix ≡ Some (at + place ds ix)
placed-is at [] [] h = let e : at ≡ at + 0 = omega arith in ap Some e
placed-is at [] (i ∷ ix) h = absurd h
placed-is at (d ∷ ds) [] h = absurd h
placed-is at (d ∷ ds) (i ∷ ix) h =
    let e : at + i * word_count ds + place ds ix ≡ at + (i * word_count ds + place ds ix) = omega arith in
    placed-is (at + i * word_count ds) ds ix h.1 ∙ ap Some e

pub place_lt : (ds ix : List ℕ) → Within ds ix → place ds ix < word_count ds
place_lt [] [] h = omega arith
place_lt [] (i ∷ ix) h = absurd h
place_lt (d ∷ ds) [] h = absurd h
place_lt (d ∷ ds) (i ∷ ix) h = subst (λ n. i * word_count ds + place ds ix < n) (mul_comm (word_count ds) d)
    (mul-add-lt i (word_count ds) (place ds ix) d h.0 (place_lt ds ix h.1))

pub place_inj : (ds ix jx : List ℕ) → Within ds ix → Within ds jx → place ds ix ≡ place ds jx → ix ≡ jx
place_inj [] [] [] h k e = refl
place_inj [] [] (j ∷ jx) h k e = absurd k
place_inj [] (i ∷ ix) jx h k e = absurd h
place_inj (d ∷ ds) [] jx h k e = absurd h
place_inj (d ∷ ds) (i ∷ ix) [] h k e = absurd k
place_inj (d ∷ ds) (i ∷ ix) (j ∷ jx) h k e =
    let both = same_from_place i (place ds ix) j (place ds jx) (word_count ds) (place_lt ds ix h.1) (place_lt ds jx k.1) e in
    ap (λ n. n ∷ ix) both.0 ∙ ap (λ xs. j ∷ xs) (place_inj ds ix jx h.1 k.1 both.1)

-- the words of a tensor are as many as its extents say
pub length-flat : (t : Tensor) (ds : List ℕ) → HasShape ds t → length (flat t) ≡ word_count ds
length-flat (Word w) [] h = refl
length-flat (Word w) (zero ∷ ds) h = absurd h
length-flat (Word w) (suc n ∷ ds) h = absurd h
length-flat End [] h = absurd h
length-flat End (zero ∷ ds) h = omega arith
length-flat End (suc n ∷ ds) h = absurd h
length-flat (Row a rest) [] h = absurd h
length-flat (Row a rest) (zero ∷ ds) h = absurd h
length-flat (Row a rest) (suc n ∷ ds) h = length-append (flat a) (flat rest) ∙ omega (arith, length-flat a ds h.0, length-flat rest (n ∷ ds) h.1)

-- the rows of a tensor
pub rows_many : (P : Tensor → Type 0) (n : ℕ) (t : Tensor) → HasRows P n t → length (rows_of t) ≡ n
rows_many P zero (Word w) h = absurd h
rows_many P zero End h = refl
rows_many P zero (Row a rest) h = absurd h
rows_many P (suc n) (Word w) h = absurd h
rows_many P (suc n) End h = absurd h
rows_many P (suc n) (Row a rest) h = ap (λ k. suc k) (rows_many P n rest h.1)

pub row_has : (P : Tensor → Type 0) (n : ℕ) (t : Tensor) (i : ℕ) → HasRows P n t → i < n → P (get_or (rows_of t) i End)
row_has P zero t i h l = absurd (omega arith)
row_has P (suc n) (Word w) i h l = absurd h
row_has P (suc n) End i h l = absurd h
row_has P (suc n) (Row a rest) zero h l = h.0
row_has P (suc n) (Row a rest) (suc i) h l = row_has P n rest i h.1 (omega arith)

row_words : (t : Tensor) (i : ℕ) → HasWords t → HasWords (get_or (rows_of t) i End)
row_words (Word w) i h = tt
row_words End i h = tt
row_words (Row a rest) zero h = h.0
row_words (Row a rest) (suc i) h = row_words rest i h.1

row_at : (t : Tensor) (n : ℕ) (ds : List ℕ) (i q : ℕ) → HasShape (n ∷ ds) t → i < n → q < word_count ds
    → get_or (flat t) (i * word_count ds + q) 0 ≡ get_or (flat (get_or (rows_of t) i End)) q 0
row_at t zero ds i q h l k = absurd (omega arith)
row_at (Word w) (suc n) ds i q h l k = absurd h
row_at End (suc n) ds i q h l k = absurd h
row_at (Row a rest) (suc n) ds zero q h l k =
    let e : 0 * word_count ds + q ≡ q = omega arith in
    let w : q < length (flat a) = omega (arith, length-flat a ds h.0) in
    ap (λ p. get_or (flat a ++ flat rest) p 0) e ∙ get_or_append_left (flat a) (flat rest) 0 q w
row_at (Row a rest) (suc n) ds (suc i) q h l k =
    let e : suc i * word_count ds + q ≡ length (flat a) + (i * word_count ds + q) = omega (arith, length-flat a ds h.0) in
    ap (λ p. get_or (flat a ++ flat rest) p 0) e ∙ get_or-append-add (flat a) (flat rest) (i * word_count ds + q) 0 ∙ row_at rest n ds i q h.1 (omega arith) k

-- the tensor has a word at a tuple of indices
abbrev pub At : Tensor → List ℕ → ℕ → Type 0
At t [] w = t ≡ Word w
At t (i ∷ ix) w = (i < length (rows_of t)) × At (get_or (rows_of t) i End) ix w

pub word_at : (ds ix : List ℕ) (t : Tensor) → HasShape ds t → HasWords t → Within ds ix → At t ix (get_or (flat t) (place ds ix) 0)
    × (get_or (flat t) (place ds ix) 0 < 2 ^ 64)
word_at [] [] (Word w) h g k = (refl, g)
word_at [] [] End h g k = absurd h
word_at [] [] (Row a rest) h g k = absurd h
word_at [] (i ∷ ix) t h g k = absurd k
word_at (d ∷ ds) [] t h g k = absurd k
word_at (d ∷ ds) (i ∷ ix) t h g k =
    let row = get_or (rows_of t) i End in
    let many = rows_many (HasShape ds) d t h in
    let one = word_at ds ix row (row_has (HasShape ds) d t i h k.0) (row_words t i g) k.1 in
    let same = row_at t d ds i (place ds ix) h k.0 (place_lt ds ix k.1) in
    ((omega (arith, many, k.0), subst (At row ix) (sym same) one.0), subst (λ v. v < 2 ^ 64) (sym same) one.1)

under_placed : (at : ℕ) (n : ℕ) (ds : List ℕ) → under 0 (placed at (n ∷ ds)) ≡ placed at ds
under_placed at n ds = let e : at + 0 * word_count ds ≡ at = omega arith in ap (λ p. placed p ds) e

later_placed : (at : ℕ) (n : ℕ) (ds : List ℕ) → later (placed at (suc n ∷ ds)) ≡ placed (at + word_count ds) (n ∷ ds)
later_placed at n ds = ext one
  where
    one : (ix : List ℕ) → later (placed at (suc n ∷ ds)) ix ≡ placed (at + word_count ds) (n ∷ ds) ix
    one [] = refl
    one (i ∷ ix) = let e : at + suc i * word_count ds ≡ at + word_count ds + i * word_count ds = omega arith in ap (λ p. placed p ds ix) e

-- a tensor scattered into zeros is its flat list
scatter_flat : (t : Tensor) (ds pre post : List ℕ) → HasShape ds t → HasWords t
    → scatter t (placed (length pre) ds) (pre ++ (replicate (word_count ds) 0 ++ post)) ≡ pre ++ (flat t ++ post)
scatter_flat (Word w) [] pre post h g =
    let v : get_or (pre ++ 0 ∷ post) (length pre) 0 + w ≡ w = omega (arith, get_or_at pre 0 post 0 (length pre) refl) in
    ap (λ x. set (pre ++ 0 ∷ post) (length pre) (x % 2 ^ 64)) v ∙ ap (set (pre ++ 0 ∷ post) (length pre)) (mod-eq_of_lt g)
    ∙ set_at pre 0 post w (length pre) refl
scatter_flat (Word w) (zero ∷ ds) pre post h g = absurd h
scatter_flat (Word w) (suc n ∷ ds) pre post h g = absurd h
scatter_flat End [] pre post h g = absurd h
scatter_flat End (zero ∷ ds) pre post h g = let z : 0 * word_count ds ≡ 0 = omega arith in ap (λ n. pre ++ (replicate n 0 ++ post)) z
scatter_flat End (suc n ∷ ds) pre post h g = absurd h
scatter_flat (Row a rest) [] pre post h g = absurd h
scatter_flat (Row a rest) (zero ∷ ds) pre post h g = absurd h
scatter_flat (Row a rest) (suc n ∷ ds) pre post h g =
    let wc = word_count ds in
    let behind = replicate (n * wc) 0 ++ post in
    let z : wc + n * wc ≡ suc n * wc = omega arith in
    let zs : replicate (suc n * wc) 0 ++ post ≡ replicate wc 0 ++ behind =
    ap (λ k. replicate k 0 ++ post) (sym z) ∙ ap (λ l. l ++ post) (sym (replicate-append-replicate wc (n * wc) 0))
    ∙ append_assoc (replicate wc 0) (replicate (n * wc) 0) post in
    let len : length pre + wc ≡ length (pre ++ flat a) = omega (arith, length-append pre (flat a), length-flat a ds h.0) in
    (λ i. scatter rest (later (placed (length pre) (suc n ∷ ds))) (scatter a (under_placed (length pre) (suc n) ds i) (pre ++ zs i)))
    ∙ ap (scatter rest (later (placed (length pre) (suc n ∷ ds)))) (scatter_flat a ds pre behind h.0 g.0 ∙ sym (append_assoc pre (flat a) behind))
    ∙ ap (λ f. scatter rest f ((pre ++ flat a) ++ behind)) (later_placed (length pre) n ds ∙ ap (λ p. placed p (n ∷ ds)) len)
    ∙ scatter_flat rest (n ∷ ds) (pre ++ flat a) post h.1 g.1
    ∙ append_assoc pre (flat a) (flat rest ++ post)
    ∙ ap (λ l. pre ++ l) (sym (append_assoc (flat a) (flat rest) post))

-- a tensor put into zeros in row order is its flat list
pub flat_from_zeros : (t : Tensor) (ds : List ℕ) → HasShape ds t → HasWords t → scatter t (placed 0 ds) (replicate (word_count ds) 0) ≡ flat t
flat_from_zeros t ds h g =
    ap (scatter t (placed 0 ds)) (sym (append-nil (replicate (word_count ds) 0)))
    ∙ scatter_flat t ds [] [] h g
    ∙ append-nil (flat t)
