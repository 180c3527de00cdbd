-- A term denotes a tensor of words below 2^64.
use Rattle.std.proofs.Common.{◌≡◌, ℕ, zero, suc, ◌+◌, ◌-◌, ◌*◌, ◌%◌, ◌^◌, ◌<◌, List, [], ◌∷◌, ◌++◌, length, map, drop, take, get_or, arith, Bool, true, false}
use Rattle.std.proofs.Common.{if◌then◌else◌}
use Rattle.std.specs.Prelude.{ℤ, pos, negsuc, unsigned_abs}
use Rattle.std.specs.Int.{int_rem_euclid}
use Rattle.affine_index.specs.Condition.{all_hold}
use Rattle.affine_index.specs.Normal.{is_remainder}
use Rattle.affine_index.specs.Value.{items_value}
use Rattle.affine_index.proofs.OrderedLaws.{rest-below}
use Rattle.term_tree.specs.declared.term.Term.{Term, Lit, TVar, WordOf}
use Rattle.term_tree.specs.Syntax.{index, gen, sum, guard, let_in, add, sub, mul, concat, flatten, split, transpose, trunc_l, trunc_r, pad_l, pad_r}
use Rattle.term_tree.specs.Tensors.{Tensor, Word, End, Row, rows_of, from_rows, by_places, copies, zeros, tabulate, total, joined}
use Rattle.term_tree.specs.Meaning.{dims, den, extent, extents_of, tail_of, row_at, chunks, columns, word_of, Bound, no_bound}
use Rattle.term_tree.specs.Shaped.{HasWords}
use Rattle.shape_rules.specs.Fits.{AllWords, LiteralsFit}

-- tensors of words
abbrev EachWords : List Tensor → Type 0
EachWords [] = Unit {0}
EachWords (x ∷ xs) = HasWords x × EachWords xs

words_rows : (x : Tensor) → HasWords x → EachWords (rows_of x)
words_rows (Word w) h = tt
words_rows End h = tt
words_rows (Row a rest) h = (h.0, words_rows rest h.1)

rows_words : (xs : List Tensor) → EachWords xs → HasWords (from_rows xs)
rows_words [] h = tt
rows_words (x ∷ xs) h = (h.0, rows_words xs h.1)

each_append : (xs ys : List Tensor) → EachWords xs → EachWords ys → EachWords (xs ++ ys)
each_append [] ys h k = k
each_append (x ∷ xs) ys h k = (h.0, each_append xs ys h.1 k)

each_copies : (n : ℕ) (x : Tensor) → HasWords x → EachWords (copies n x)
each_copies zero x h = tt
each_copies (suc n) x h = (h, each_copies n x h)

each_tabulate : (n : ℕ) (f : ℕ → Tensor) → ((i : ℕ) → HasWords (f i)) → EachWords (tabulate n f)
each_tabulate zero f h = tt
each_tabulate (suc n) f h = (h zero, each_tabulate n (λ i. f (suc i)) (λ i. h (suc i)))

each_get : (xs : List Tensor) (i : ℕ) (z : Tensor) → EachWords xs → HasWords z → HasWords (get_or xs i z)
each_get [] i z h k = k
each_get (x ∷ xs) zero z h k = h.0
each_get (x ∷ xs) (suc i) z h k = each_get xs i z h.1 k

each_drop : (n : ℕ) (xs : List Tensor) → EachWords xs → EachWords (drop n xs)
each_drop zero xs h = h
each_drop (suc n) [] h = tt
each_drop (suc n) (x ∷ xs) h = each_drop n xs h.1

each_take : (n : ℕ) (xs : List Tensor) → EachWords xs → EachWords (take n xs)
each_take zero xs h = tt
each_take (suc n) [] h = tt
each_take (suc n) (x ∷ xs) h = (h.0, each_take n xs h.1)

each_map : (f : Tensor → Tensor) → ((x : Tensor) → HasWords x → HasWords (f x)) → (xs : List Tensor) → EachWords xs → EachWords (map f xs)
each_map f g [] h = tt
each_map f g (x ∷ xs) h = (g x h.0, each_map f g xs h.1)

each_joined : (xs : List Tensor) → EachWords xs → EachWords (joined xs)
each_joined [] h = tt
each_joined (x ∷ xs) h = each_append (rows_of x) (joined xs) (words_rows x h.0) (each_joined xs h.1)

each_chunks : (n k : ℕ) (z : Tensor) (xs : List Tensor) → HasWords z → EachWords xs → EachWords (chunks n k z xs)
each_chunks zero k z xs g h = tt
each_chunks (suc n) k z xs g h =
    (rows_words _ (each_tabulate k (λ i. get_or xs i z) (λ i. each_get xs i z h g)), each_chunks n k z (drop k xs) g (each_drop k xs h))

each_columns : (n : ℕ) (z : Tensor) (xs : List Tensor) → HasWords z → EachWords xs → EachWords (columns n z xs)
each_columns n z xs g h =
    each_tabulate n _ (λ j. rows_words _ (each_map (λ row. get_or (rows_of row) j z) (λ row k. each_get (rows_of row) j z (words_rows row k) g) xs h))

zeros_words : (d : List ℕ) → HasWords (zeros d)
zeros_words [] = omega arith
zeros_words (n ∷ d) = rows_words _ (each_copies n (zeros d) (zeros_words d))

places_words : (f : ℕ → ℕ → ℕ) → ((v w : ℕ) → f v w < 2 ^ 64) → (x y : Tensor) → HasWords (by_places f x y)
places_words f h (Word v) (Word w) = h v w
places_words f h (Word v) End = tt
places_words f h (Word v) (Row b more) = tt
places_words f h End y = tt
places_words f h (Row a rest) (Word w) = tt
places_words f h (Row a rest) End = tt
places_words f h (Row a rest) (Row b more) = (places_words f h a b, places_words f h rest more)

below : (n : ℕ) → n % 2 ^ 64 < 2 ^ 64
below n = omega arith

total_words : (z : Tensor) (xs : List Tensor) → HasWords z → HasWords (total z xs)
total_words z [] h = h
total_words z (x ∷ xs) h = places_words _ (λ v w. below (v + w)) x (total z xs)

remainder_below : (k : ℕ) (z : ℤ) → is_remainder k z ≡ true → unsigned_abs z < k
remainder_below k (pos n) h = grind arith
remainder_below k (negsuc n) h = absurd (cc)

word_below : (z : ℤ) → word_of z < 2 ^ 64
word_below z = remainder_below (2 ^ 64) (int_rem_euclid z (pos (2 ^ 64))) (rest-below z (2 ^ 64) (omega arith))

row_words : (xs : List Tensor) (i : ℤ) (z : Tensor) → EachWords xs → HasWords z → HasWords (row_at xs i z)
row_words xs (pos i) z h k = each_get xs i z h k
row_words xs (negsuc i) z h k = k

variable_words : (t : List Bound) (q : ℕ) → AllWords t → HasWords (get_or t q no_bound).1
variable_words [] q h = omega arith
variable_words (b ∷ t) zero h = h.0
variable_words (b ∷ t) (suc q) h = variable_words t q h.1

chosen : (b : Bool) (x y : Tensor) → HasWords x → HasWords y → HasWords (if b then x else y)
chosen true x y h k = h
chosen false x y h k = k

-- each word of the tensor of a term is below 2^64, where its literals and the words of the tensor variables are
pub den_words : (e : Term) (s r : List ℕ) (t : List Bound) → LiteralsFit e → AllWords t → HasWords (den e s r t)
den_words (Lit w) s r t f h = f
den_words (TVar q) s r t f h = variable_words t q h
den_words (WordOf x) s r t f h = word_below (items_value s r x)
den_words (index e x) s r t f h =
    row_words (rows_of (den e s r t)) (items_value s r x) _ (words_rows _ (den_words e s r t f h)) (zeros_words (tail_of (dims e s (extents_of t))))
den_words (gen n e) s r t f h = rows_words _ (each_tabulate (extent n s) (λ i. den e s (i ∷ r) t) (λ i. den_words e s (i ∷ r) t f h))
den_words (sum n e) s r t f h = total_words _ (tabulate (extent n s) (λ i. den e s (i ∷ r) t)) (zeros_words (dims e s (extents_of t)))
den_words (guard c e) s r t f h = chosen (all_hold s r c.all) _ _ (den_words e s r t f h) (zeros_words (dims e s (extents_of t)))
den_words (let_in a b) s r t f h = den_words b s r ((dims a s (extents_of t), den a s r t) ∷ t) f.1 (den_words a s r t f.0 h, h)
den_words (add a b) s r t f h = places_words _ (λ v w. below (v + w)) (den a s r t) (den b s r t)
den_words (sub a b) s r t f h = places_words _ (λ v w. below (v + (2 ^ 64 - w))) (den a s r t) (den b s r t)
den_words (mul a b) s r t f h = places_words _ (λ v w. below (v * w)) (den a s r t) (den b s r t)
den_words (concat a b) s r t f h = rows_words _ (each_append _ _ (words_rows _ (den_words a s r t f.0 h)) (words_rows _ (den_words b s r t f.1 h)))
den_words (flatten e) s r t f h = rows_words _ (each_joined _ (words_rows _ (den_words e s r t f h)))
den_words (split k e) s r t f h = rows_words _ (each_chunks _ k _ _ (zeros_words (tail_of (dims e s (extents_of t)))) (words_rows _ (den_words e s r t f h)))
den_words (transpose e) s r t f h =
    rows_words _ (each_columns _ _ _ (zeros_words (tail_of (tail_of (dims e s (extents_of t))))) (words_rows _ (den_words e s r t f h)))
den_words (trunc_l n e) s r t f h = rows_words _ (each_drop (extent n s) _ (words_rows _ (den_words e s r t f h)))
den_words (trunc_r n e) s r t f h = rows_words _ (each_take (length (rows_of (den e s r t)) - extent n s) _ (words_rows _ (den_words e s r t f h)))
den_words (pad_l n e) s r t f h =
    rows_words _ (each_append _ _ (each_copies (extent n s) _ (zeros_words (tail_of (dims e s (extents_of t))))) (words_rows _ (den_words e s r t f h)))
den_words (pad_r n e) s r t f h =
    rows_words _ (each_append _ _ (words_rows _ (den_words e s r t f h)) (each_copies (extent n s) _ (zeros_words (tail_of (dims e s (extents_of t))))))
