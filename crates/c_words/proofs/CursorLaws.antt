-- The words that a cursor shows.
use Rattle.std.proofs.Common.{◌≡◌, ℕ, zero, suc, ◌+◌, ◌-◌, ◌<◌, Bool, true, false, if◌then◌else◌, Option}
use Rattle.std.proofs.Common.{Some, None, List, [], ◌∷◌, length, take, drop, refl, sym, ap, ◌∙◌, arith}
use Rattle.text_tokens.specs.declared.kind.Kind.{Kind}
use Rattle.text_tokens.specs.declared.kind.Kind.TheVariants.{End}
use Rattle.text_tokens.specs.Kinds.{Text}
use Rattle.text_tokens.specs.Words.{Word, next_word, tail}
use Rattle.c_words.specs.declared.state.State.{State}
use Rattle.c_words.specs.Words.{behind, is_bad, step_at, word_at, word_of, words_from}
use Rattle.c_words.specs.Cursor.{follow, front_words}

pub words_drop : (end n : ℕ) (s : State) (z : Text) → words_from end n s z ≡ words_from end 0 s (drop n z)
unfolding words_from
words_drop end zero s z = refl
words_drop end (suc n) s [] = refl
words_drop end (suc n) s (c ∷ z) = words_drop end n s z

-- a step over white space or in a comment
pub words_step : (end : ℕ) (s : State) (z : Text) (t : State) (n : ℕ) → step_at s z ≡ Some (t, n)
    → words_from end 0 s z ≡ words_from end 0 t (drop n (drop 1 z))
unfolding words_from
words_step end s [] t n h = absurd cc
words_step end s (c ∷ z) t n h = rw h (words_drop end n t z)

-- a word
pub words_found : (end : ℕ) (s : State) (z : Text) (kd : Kind) (n : ℕ) → 0 < length z → step_at s z ≡ None → word_of s z ≡ (kd, n) → 0 < n
    → front_words end kd n z ≡ words_from end 0 s z
unfolding words_from
words_found end s [] kd n l h e m = absurd (omega arith)
words_found end s (c ∷ z) kd zero l h e m = absurd (omega arith)
words_found end s (c ∷ z) kd (suc n) l h e m = rw (h, e) (rest (is_bad kd))
  where
    one : suc n - 1 ≡ n
    one = omega arith

    rest : (b : Bool) → word_at end kd (suc n) (c ∷ z) ∷ (if b then [] else words_from end 0 (behind kd) (drop n z)) ≡ word_at end kd (suc n) (c ∷ z)
        ∷ (if b then [] else words_from end (suc n - 1) (behind kd) z)
    rest true = refl
    rest false = rw (one, words_drop end n (behind kd) z) refl

-- no word
pub words_none : (end n : ℕ) (kd : Kind) (s : State) (z : Text) → length z ≡ 0 → front_words end kd n z ≡ words_from end 0 s z
unfolding words_from
words_none end n kd s [] e = refl
words_none end n kd s (c ∷ z) e = absurd (omega arith)

pub peek_ready : (end n : ℕ) (kd : Kind) (z : Text) → (length z ≡ 0 → kd ≡ End)
    → next_word end (front_words end kd n z) ≡ record { kind = kd; text = take n z; place = end - length z }
peek_ready end zero kd [] h = let z : end - 0 ≡ end = omega arith in rw (h refl, z) refl
peek_ready end (suc n) kd [] h = let z : end - 0 ≡ end = omega arith in rw (h refl, z) refl
peek_ready end n kd (c ∷ z) h = refl

pub next_ready : (end n : ℕ) (kd : Kind) (z : Text) → (length z ≡ 0 → kd ≡ End) → tail (front_words end kd n z) ≡ follow end kd (drop n z)
unfolding words_from
next_ready end zero kd [] h = rw (h refl) refl
next_ready end (suc n) kd [] h = rw (h refl) refl
next_ready end n kd (c ∷ z) h = refl
