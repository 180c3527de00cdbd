-- The texts of a trial are short.
use Rattle.std.proofs.Common.{ℕ, zero, suc, ◌+◌, ◌*◌, ◌^◌, ◌<◌, ◌≤◌, List, [], ◌∷◌, ◌++◌, length, flat_map, codes, decimal, arith}
use Rattle.std.proofs.lemmas.Fmt.{length-decimal-le}
use Rattle.std.proofs.lemmas.List.{length-append}
use Rattle.std.proofs.lemmas.Nat.{mod_below}
use Rattle.text_tokens.specs.Kinds.{Text}
use Rattle.given_text.specs.Line.{output_line, spaced}
use Rattle.trial_text.specs.TrialText.{bodies_text, given_from, let_text, lets_text, source_head, squares_text, step_text, steps_text, stepped, stepped_on, tensor_name, trial_given, trial_script, trial_source, words_from}

shorter : (a b : Text) (m n : ℕ) → length a ≤ m → length b ≤ n → length (a ++ b) ≤ m + n
shorter a b m n h k = omega (arith, length-append a b, h, k)

three-short : (a b c : Text) (m n o : ℕ) → length a ≤ m → length b ≤ n → length c ≤ o → length ((a ++ b) ++ c) ≤ m + n + o
three-short a b c m n o h k l = shorter (a ++ b) c (m + n) o (shorter a b m n h k) l

five-short : (a b c d e : Text) (m n o p q : ℕ) → length a ≤ m → length b ≤ n → length c ≤ o → length d ≤ p → length e ≤ q
    → length ((((a ++ b) ++ c) ++ d) ++ e) ≤ m + n + o + p + q
five-short a b c d e m n o p q h i j k l = three-short ((a ++ b) ++ c) d e (m + n + o) p q (three-short a b c m n o h i j) k l

number-length : (n : ℕ) → n < 2 ^ 64 → length (decimal n) ≤ 20
number-length n h = length-decimal-le 20 n (omega arith) (omega (arith, h)) h

-- ---- the source

name-length : (n : ℕ) → n < 2 ^ 64 → length (tensor_name n) ≤ 21
name-length zero h = omega arith
name-length (suc n) h = shorter (codes "x") (decimal (suc n)) 1 20 (omega arith) (number-length (suc n) h)

let-length : (n : ℕ) → n ≤ 16 → length (let_text n) ≤ 200
let-length n h =
    let next = name-length (suc n) (omega (arith, h)) in
    let here = name-length n (omega (arith, h)) in
    let all =
    five-short (codes "  let ") (tensor_name (suc n)) (codes " = gen i < N. sum j < 3. (guard i + j < N. ") (tensor_name n)
    (codes "[i + j]) * W[j] in\n") 6 21 60 21 30 (omega arith) next (omega arith) here (omega arith) in
    omega (arith, all)

lets-length : (k : ℕ) → k ≤ 17 → length (lets_text k) ≤ 200 * k
lets-length zero h = omega arith
lets-length (suc n) h = omega (arith, length-append (lets_text n) (let_text n), lets-length n (omega (arith, h)), let-length n (omega (arith, h)))

squares-length : (n : ℕ) → n ≤ 16 → length (squares_text n) ≤ 200
squares-length n h =
    let here = name-length n (omega (arith, h)) in
    let all =
    five-short (codes "  gen i < N. ") (tensor_name n) (codes "[i] * ") (tensor_name n) (codes "[i];\n") 20 21 10 21 10 (omega arith) here (omega arith) here
    (omega arith) in
    omega (arith, all)

pub source-length : (k : ℕ) → k ≤ 16 → length (trial_source k) ≤ 1048576
unfolding trial_source
source-length k h =
    let all =
    three-short source_head (lets_text k) (squares_text k) 100 (200 * k) 200 (omega arith) (lets-length k (omega (arith, h))) (squares-length k h) in
    omega (arith, all, h)

-- ---- the script

bodies-length : (n : ℕ) → length (bodies_text n) ≤ 2 * n
bodies-length zero = omega arith
bodies-length (suc n) = omega (arith, length-append (bodies_text n) (codes ".1"), bodies-length n)

step-length : (n : ℕ) → n ≤ 16 → length (step_text n) ≤ 100
step-length n h =
    let all = three-short (codes "at 0") (bodies_text n) (codes ".0 do split_gen(8);\n") 4 (2 * n) 30 (omega arith) (bodies-length n) (omega arith) in
    omega (arith, all, h)

steps-length : (k : ℕ) → k ≤ 17 → length (steps_text k) ≤ 100 * k
steps-length zero h = omega arith
steps-length (suc n) h = omega (arith, length-append (steps_text n) (step_text n), steps-length n (omega (arith, h)), step-length n (omega (arith, h)))

pub script-length : (k : ℕ) → k ≤ 16 → length (trial_script k) ≤ 1048576
unfolding trial_script
script-length k h =
    let a = shorter (codes "schedule 1;\n") (steps_text k) 12 (100 * k) (omega arith) (steps-length k (omega (arith, h))) in
    omega (arith, a, h)

-- ---- the given text

abbrev Small : List ℕ → Type 0
Small [] = Unit {0}
Small (w ∷ ws) = (w < 2 ^ 64) × Small ws

small-more : (ws : List ℕ) (w : ℕ) → Small ws → w < 2 ^ 64 → Small (ws ++ w ∷ [])
small-more [] w h l = (l, tt)
small-more (v ∷ ws) w h l = (h.0, small-more ws w h.1 l)

stepped-small : (x : ℕ) → stepped x < 2 ^ 64
stepped-small x = mod_below (x * 6364136223846793005 + 1442695040888963407) (2 ^ 64) (omega arith)

words-small : (x n : ℕ) → Small (words_from x n)
words-small x zero = tt
words-small x (suc n) = small-more (words_from x n) (stepped (stepped_on x n)) (words-small x n) (stepped-small (stepped_on x n))

words-many : (x n : ℕ) → length (words_from x n) ≤ n
words-many x zero = omega arith
words-many x (suc n) = omega (arith, length-append (words_from x n) (stepped (stepped_on x n) ∷ []), words-many x n)

spaced-length : (ws : List ℕ) → Small ws → length (flat_map spaced ws) ≤ 21 * length ws
spaced-length [] h = omega arith
spaced-length (w ∷ ws) h =
    let here = shorter (codes " ") (decimal w) 1 20 (omega arith) (number-length w h.0) in
    let all = shorter (spaced w) (flat_map spaced ws) 21 (21 * length ws) here (spaced-length ws h.1) in
    omega (arith, all)

line-length : (name : Text) (ws : List ℕ) (n : ℕ) → length name ≤ 1 → Small ws → length ws ≤ n → length (output_line name ws) ≤ 4 + 21 * n
line-length name ws n h s many =
    let first = three-short name (codes ":") (flat_map spaced ws) 1 1 (21 * length ws) h (omega arith) (spaced-length ws s) in
    let all = shorter ((name ++ codes ":") ++ flat_map spaced ws) (codes ";\n") (2 + 21 * length ws) 2 (omega (arith, first)) (omega arith) in
    omega (arith, all, many)

from-length : (size x n m : ℕ) → size < 2 ^ 64 → length (given_from size x n m) ≤ 33 + 21 * n + 21 * m
unfolding given_from
from-length size x n m h =
    let a = line-length (codes "N") (size ∷ []) 1 (omega arith) (h, tt) (omega arith) in
    let b = line-length (codes "A") (words_from x n) n (omega arith) (words-small x n) (words-many x n) in
    let c = line-length (codes "W") (words_from (stepped_on x n) m) m (omega arith) (words-small (stepped_on x n) m) (words-many (stepped_on x n) m) in
    let all =
    three-short (output_line (codes "N") (size ∷ [])) (output_line (codes "A") (words_from x n)) (output_line (codes "W") (words_from (stepped_on x n) m))
    25 (4 + 21 * n) (4 + 21 * m) a b c in
    omega (arith, all)

pub given-length : length trial_given ≤ 1048576
unfolding trial_given
given-length = omega (arith, from-length 1000 1 1000 3 (omega arith))
