-- The shape and the words of a tensor that is made of words.
use Rattle.std.proofs.Common.{◌≡◌, ◌∙◌, ℕ, zero, suc, ◌+◌, ◌-◌, ◌*◌, ◌<◌, ◌≤◌, ◌^◌, List, [], ◌∷◌, ◌++◌, length, take, drop, refl, ap, arith}
use Rattle.std.proofs.lemmas.List.{length-drop, length-take-le, take-append-drop}
use Rattle.term_tree.specs.Shaped.{HasRows, HasShape, HasWords, flat, word_count}
use Rattle.term_tree.specs.Tensors.{Tensor, from_rows}
use Rattle.word_tensors.specs.WordTensors.{AreWords, IsOfWords, first_word, rows_of_words, tensor_of}

-- ---- the shape

rows-shape : (P : Tensor → Type 0) (f : List ℕ → Tensor) (k n : ℕ) (ws : List ℕ) → ((vs : List ℕ) → P (f vs))
    → HasRows P n (from_rows (rows_of_words f k n ws))
rows-shape P f k zero ws h = tt
rows-shape P f k (suc n) ws h = (h (take k ws), rows-shape P f k n (drop k ws) h)

pub has-shape : (ds ws : List ℕ) → HasShape ds (tensor_of ds ws)
has-shape [] ws = tt
has-shape (n ∷ ns) ws = rows-shape (HasShape ns) (tensor_of ns) (word_count ns) n ws (λ vs. has-shape ns vs)

-- ---- words below 2^64

take-words : (k : ℕ) (ws : List ℕ) → AreWords ws → AreWords (take k ws)
take-words zero ws h = tt
take-words (suc k) [] h = tt
take-words (suc k) (w ∷ ws) h = (h.0, take-words k ws h.1)

drop-words : (k : ℕ) (ws : List ℕ) → AreWords ws → AreWords (drop k ws)
drop-words zero ws h = h
drop-words (suc k) [] h = tt
drop-words (suc k) (w ∷ ws) h = drop-words k ws h.1

rows-words : (f : List ℕ → Tensor) (k n : ℕ) (ws : List ℕ) → ((vs : List ℕ) → AreWords vs → HasWords (f vs)) → AreWords ws
    → HasWords (from_rows (rows_of_words f k n ws))
rows-words f k zero ws h a = tt
rows-words f k (suc n) ws h a = (h (take k ws) (take-words k ws a), rows-words f k n (drop k ws) h (drop-words k ws a))

first-word : (ws : List ℕ) → AreWords ws → first_word ws < 2 ^ 64
first-word [] a = omega arith
first-word (w ∷ ws) a = a.0

pub has-words : (ds ws : List ℕ) → AreWords ws → HasWords (tensor_of ds ws)
has-words [] ws a = first-word ws a
has-words (n ∷ ns) ws a = rows-words (tensor_of ns) (word_count ns) n ws (λ vs b. has-words ns vs b) a

-- ---- the words

none : (ws : List ℕ) → length ws ≡ 0 → [] ≡ ws
none [] e = refl
none (w ∷ ws) e = absurd (omega (arith, e))

no_row : (k : ℕ) → 0 * k ≡ 0
no_row k = omega arith

one_row : (n k : ℕ) → suc n * k ≡ k + n * k
one_row n k = omega arith

rows-flat : (f : List ℕ → Tensor) (k n : ℕ) (ws : List ℕ) → ((vs : List ℕ) → length vs ≡ k → flat (f vs) ≡ vs) → length ws ≡ n * k
    → flat (from_rows (rows_of_words f k n ws)) ≡ ws
rows-flat f k zero ws h e = none ws (e ∙ no_row k)
rows-flat f k (suc n) ws h e =
    let more = one_row n k in
    let enough : k ≤ length ws = omega (arith, e, more) in
    let d = length-drop k ws in
    let left : length (drop k ws) ≡ n * k = omega (arith, e, more, d) in
    let first = h (take k ws) (length-take-le k ws enough) in
    let rest = rows-flat f k n (drop k ws) h left in
    (λ i. first i ++ rest i) ∙ take-append-drop k ws

one-word : (ws : List ℕ) → length ws ≡ 1 → first_word ws ∷ [] ≡ ws
one-word [] e = absurd (omega (arith, e))
one-word (w ∷ []) e = refl
one-word (w ∷ v ∷ ws) e = absurd (omega (arith, e))

pub has-flat : (ds ws : List ℕ) → length ws ≡ word_count ds → flat (tensor_of ds ws) ≡ ws
has-flat [] ws e = one-word ws e
has-flat (n ∷ ns) ws e = rows-flat (tensor_of ns) (word_count ns) n ws (λ vs d. has-flat ns vs d) e

pub is-of-words : (ds ws : List ℕ) → IsOfWords ds ws
is-of-words ds ws = record { shape = has-shape ds ws; words = has-words ds ws; same = has-flat ds ws }
