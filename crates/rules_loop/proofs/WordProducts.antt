-- Products of words with sums of words.
use Rattle.std.proofs.Common.{◌≡◌, ℕ, zero, suc, ◌+◌, ◌*◌, ◌%◌, ◌^◌, [], ◌∷◌, refl, ap, sym, ◌∙◌, arith, Ok, Err, IsOk}
use Rattle.std.proofs.lemmas.Nat.{mul-mod_second}
use Rattle.path_focus.specs.Focus.{SameOrLimit}
use Rattle.rule_parts.proofs.Replacing.{never}
use Rattle.rules_loop.proofs.ShapeLaws.{summed}
use Rattle.term_tree.specs.Shape.{Shaped, of_words, with_child}
use Rattle.term_tree.specs.Shaped.{IsWord}
use Rattle.term_tree.specs.Tensors.{End, Row, Tensor, Word, by_places, plus_places, tabulate, total, zeros}

-- products of words
abbrev pub times_places : Tensor → Tensor → Tensor
times_places = by_places (λ v w. (v * w) % 2 ^ 64)

none_times : (v : ℕ) → (v * 0) % 2 ^ 64 ≡ 0
none_times v = grind arith

spread : (v w u : ℕ) → v * (w + u) ≡ v * w + v * u
spread v w u = grind arith

two_rests : (a b : ℕ) → (a % 2 ^ 64 + b % 2 ^ 64) % 2 ^ 64 ≡ (a + b) % 2 ^ 64
two_rests a b = omega arith

word_times : (v w u : ℕ) → (v * ((w + u) % 2 ^ 64)) % 2 ^ 64 ≡ ((v * w) % 2 ^ 64 + (v * u) % 2 ^ 64) % 2 ^ 64
word_times v w u = mul-mod_second v (w + u) (2 ^ 64) ∙ ap (λ n. n % 2 ^ 64) (spread v w u) ∙ sym (two_rests (v * w) (v * u))

times_plus : (x y z : Tensor) → IsWord x → IsWord y → IsWord z → times_places x (plus_places y z) ≡ plus_places (times_places x y) (times_places x z)
times_plus (Word v) (Word w) (Word u) h k l = ap Word (word_times v w u)
times_plus (Word v) (Word w) End h k l = absurd l
times_plus (Word v) (Word w) (Row a b) h k l = absurd l
times_plus (Word v) End z h k l = absurd k
times_plus (Word v) (Row a b) z h k l = absurd k
times_plus End y z h k l = absurd h
times_plus (Row a b) y z h k l = absurd h

times_none : (x : Tensor) → IsWord x → times_places x (zeros []) ≡ zeros []
times_none (Word v) h = ap Word (none_times v)
times_none End h = absurd h
times_none (Row a b) h = absurd h

plus_word : (x y : Tensor) → IsWord x → IsWord y → IsWord (plus_places x y)
plus_word (Word v) (Word w) h k = tt
plus_word (Word v) End h k = absurd k
plus_word (Word v) (Row a b) h k = absurd k
plus_word End y h k = absurd h
plus_word (Row a b) y h k = absurd h

total_word : (n : ℕ) (g : ℕ → Tensor) → ((i : ℕ) → IsWord (g i)) → IsWord (total (zeros []) (tabulate n g))
total_word zero g h = tt
total_word (suc n) g h = plus_word (g zero) (total (zeros []) (tabulate n (λ i. g (suc i)))) (h zero) (total_word n (λ i. g (suc i)) (λ i. h (suc i)))

-- a word times a sum of words
pub times_total : (x : Tensor) (n : ℕ) (g : ℕ → Tensor) → IsWord x → ((i : ℕ) → IsWord (g i))
    → times_places x (total (zeros []) (tabulate n g)) ≡ total (zeros []) (tabulate n (λ i. times_places x (g i)))
times_total x zero g h k = times_none x h
times_total x (suc n) g h k =
    let rest : ℕ → Tensor = λ i. g (suc i) in
    times_plus x (g zero) (total (zeros []) (tabulate n rest)) h (k zero) (total_word n rest (λ i. k (suc i)))
    ∙ ap (plus_places (times_places x (g zero))) (times_total x n rest h (λ i. k (suc i)))

-- the shapes of a product of words
abbrev pub words : Shaped → Shaped → Shaped
words x y = with_child 0 x (λ ns. with_child 1 y (of_words ns))

pub words_summed : (x y : Shaped) → IsOk (words x (summed y)) → SameOrLimit (words x (summed y)) (summed (words x y))
words_summed (Ok []) (Ok []) h = refl
words_summed (Ok []) (Ok (m ∷ ms)) h = absurd (never h)
words_summed (Ok []) (Err m) h = absurd (never h)
words_summed (Ok (n ∷ ns)) (Ok ms) h = absurd (never h)
words_summed (Ok (n ∷ ns)) (Err m) h = absurd (never h)
words_summed (Err m) y h = absurd (never h)

pub factor_outside : (x y : Shaped) → IsOk (summed (words x y)) → words x (summed y) ≡ summed (words x y)
factor_outside (Err m) y h = absurd (never h)
factor_outside (Ok ns) (Err m) h = absurd (never h)
factor_outside (Ok []) (Ok []) h = refl
factor_outside (Ok []) (Ok (m ∷ ms)) h = absurd (never h)
factor_outside (Ok (n ∷ ns)) (Ok ms) h = absurd (never h)
