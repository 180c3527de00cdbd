-- The extents of a term, and the tensor that it denotes.
use Rattle.std.specs.Prelude.{ℕ, zero, suc, ◌+◌, ◌-◌, ◌*◌, ◌/◌, ◌%◌, ◌^◌, List, [], ◌∷◌, ◌++◌, map, drop, get_or, if◌then◌else◌, ℤ, pos, negsuc, unsigned_abs}
use Rattle.std.specs.Int.{int_rem_euclid}
use Rattle.affine_index.specs.declared.aff.Aff.{Aff}
use Rattle.affine_index.specs.Value.{items_value}
use Rattle.affine_index.specs.Condition.{all_hold}
use Rattle.term_tree.specs.declared.term.Term.{Term, Lit, TVar, WordOf}
use Rattle.term_tree.specs.Syntax.{index, gen, sum, guard, let_in, add, sub, mul, concat, flatten, split, transpose, trunc_l, trunc_r, pad_l, pad_r}
use Rattle.term_tree.specs.Tensors.{Tensor, Word, End, rows_of, from_rows, by_places, copies, zeros, tabulate, total, joined, drop_last}

-- a negative number counts as 0
abbrev pub count_of : ℤ → ℕ
count_of (pos n) = n
count_of (negsuc n) = 0

-- a whole number modulo 2^64
abbrev pub word_of : ℤ → ℕ
word_of z = unsigned_abs (int_rem_euclid z (pos (2 ^ 64)))

-- an extent, in which no index variable stands
abbrev pub extent : Aff → List ℕ → ℕ
extent n s = count_of (items_value s [] n)

-- the first extent, and the others
abbrev pub head_of : List ℕ → ℕ
head_of [] = 0
head_of (n ∷ ns) = n

abbrev pub tail_of : List ℕ → List ℕ
tail_of [] = []
tail_of (n ∷ ns) = ns

-- the extents of a term, at sizes s and the extents ds of the tensor variables
abbrev pub dims : Term → List ℕ → List (List ℕ) → List ℕ
dims (Lit w) s ds = []
dims (TVar q) s ds = get_or ds q []
dims (WordOf x) s ds = []
dims (index e x) s ds = tail_of (dims e s ds)
dims (gen n e) s ds = extent n s ∷ dims e s ds
dims (sum n e) s ds = dims e s ds
dims (guard c e) s ds = dims e s ds
dims (let_in a b) s ds = dims b s (dims a s ds ∷ ds)
dims (add a b) s ds = dims a s ds
dims (sub a b) s ds = dims a s ds
dims (mul a b) s ds = []
dims (concat a b) s ds = (head_of (dims a s ds) + head_of (dims b s ds)) ∷ tail_of (dims a s ds)
dims (flatten e) s ds = let d = dims e s ds in (head_of d * head_of (tail_of d)) ∷ tail_of (tail_of d)
dims (split k e) s ds = let d = dims e s ds in ((head_of d + k - 1) / k) ∷ k ∷ tail_of d
dims (transpose e) s ds = let d = dims e s ds in head_of (tail_of d) ∷ head_of d ∷ tail_of (tail_of d)
dims (trunc_l n e) s ds = (head_of (dims e s ds) - extent n s) ∷ tail_of (dims e s ds)
dims (trunc_r n e) s ds = (head_of (dims e s ds) - extent n s) ∷ tail_of (dims e s ds)
dims (pad_l n e) s ds = (head_of (dims e s ds) + extent n s) ∷ tail_of (dims e s ds)
dims (pad_r n e) s ds = (head_of (dims e s ds) + extent n s) ∷ tail_of (dims e s ds)

-- a tensor variable's extents, and its value
abbrev pub Bound : Type 0
Bound = List ℕ × Tensor

abbrev pub no_bound : Bound
no_bound = ([], Word 0)

abbrev pub extents_of : List Bound → List (List ℕ)
extents_of t = map (λ b. b.0) t

-- row i of the rows, and z where there is none
abbrev pub row_at : List Tensor → ℤ → Tensor → Tensor
row_at rows (pos i) z = get_or rows i z
row_at rows (negsuc i) z = z

-- n rows of k rows each
abbrev pub chunks : ℕ → ℕ → Tensor → List Tensor → List Tensor
chunks zero k z rows = []
chunks (suc n) k z rows = from_rows (tabulate k (λ i. get_or rows i z)) ∷ chunks n k z (drop k rows)

-- the n columns
abbrev pub columns : ℕ → Tensor → List Tensor → List Tensor
columns n z rows = tabulate n (λ j. from_rows (map (λ row. get_or (rows_of row) j z) rows))

-- the tensor of a term, at sizes s, index variables r and tensor variables t, each from the innermost
abbrev pub den : Term → List ℕ → List ℕ → List Bound → Tensor
den (Lit w) s r t = Word w
den (TVar q) s r t = (get_or t q no_bound).1
den (WordOf x) s r t = Word (word_of (items_value s r x))
den (index e x) s r t = row_at (rows_of (den e s r t)) (items_value s r x) (zeros (tail_of (dims e s (extents_of t))))
den (gen n e) s r t = from_rows (tabulate (extent n s) (λ i. den e s (i ∷ r) t))
den (sum n e) s r t = total (zeros (dims e s (extents_of t))) (tabulate (extent n s) (λ i. den e s (i ∷ r) t))
den (guard c e) s r t = if all_hold s r c.all then den e s r t else zeros (dims e s (extents_of t))
den (let_in a b) s r t = den b s r ((dims a s (extents_of t), den a s r t) ∷ t)
den (add a b) s r t = by_places (λ v w. (v + w) % 2 ^ 64) (den a s r t) (den b s r t)
den (sub a b) s r t = by_places (λ v w. (v + (2 ^ 64 - w)) % 2 ^ 64) (den a s r t) (den b s r t)
den (mul a b) s r t = by_places (λ v w. (v * w) % 2 ^ 64) (den a s r t) (den b s r t)
den (concat a b) s r t = from_rows (rows_of (den a s r t) ++ rows_of (den b s r t))
den (flatten e) s r t = from_rows (joined (rows_of (den e s r t)))
den (split k e) s r t = let d = dims e s (extents_of t) in from_rows (chunks ((head_of d + k - 1) / k) k (zeros (tail_of d)) (rows_of (den e s r t)))
den (transpose e) s r t = let d = dims e s (extents_of t) in from_rows (columns (head_of (tail_of d)) (zeros (tail_of (tail_of d))) (rows_of (den e s r t)))
den (trunc_l n e) s r t = from_rows (drop (extent n s) (rows_of (den e s r t)))
den (trunc_r n e) s r t = from_rows (drop_last (extent n s) (rows_of (den e s r t)))
den (pad_l n e) s r t = from_rows (copies (extent n s) (zeros (tail_of (dims e s (extents_of t)))) ++ rows_of (den e s r t))
den (pad_r n e) s r t = from_rows (rows_of (den e s r t) ++ copies (extent n s) (zeros (tail_of (dims e s (extents_of t)))))
