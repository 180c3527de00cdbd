-- A reader that goes on step by step, one step at a time, where each step takes a word.
use Rattle.std.proofs.Common.{◌≡◌, ℕ, zero, suc, ◌+◌, ◌<◌, Bool, true, false, cond, length, Ok, Err, refl, sym, ap, ◌∙◌, arith}
use Rattle.text_tokens.specs.Words.{Input, Word, peek}
use Rattle.reader_laws.specs.Steps.{Outcome, Parser, ◌>>=◌, and_then}
use Rattle.c_read.specs.Parts.{until, until_by}

module _ {A B : Type 0} (goes : Word → Bool) (turn : A → Parser A) (final : A → Parser B)
    (shorter : (a b : A) (i j : Input) → turn a i ≡ Ok (b, j) → length j.words < length i.words) where
  abbrev By : ℕ → A → Parser B
  By = until_by goes turn final

  enough : (n m : ℕ) (a : A) (i : Input) → length i.words < n → length i.words < m → By n a i ≡ By m a i
  enough zero m a i h l = absurd (omega arith)
  enough (suc n) zero a i h l = absurd (omega arith)
  enough (suc n) (suc m) a i h l = go (goes (peek i)) (turn a i) refl
      (λ b j e x y. enough n m b j x y)
    where
      go : (v : Bool) (r : Outcome A) → turn a i ≡ r
          → ((b : A) (j : Input) → turn a i ≡ Ok (b, j) → length j.words < n → length j.words < m → By n b j ≡ By m b j)
          → cond v ((turn a >>= By n) i) (final a i) ≡ cond v ((turn a >>= By m) i) (final a i)
      go false r e rest = refl
      go true (Err x) e rest = ap (λ r. and_then r (By n)) e ∙ sym (ap (λ r. and_then r (By m)) e)
      go true (Ok p) e rest =
          let less = shorter a p.0 i p.1 e in
          ap (λ r. and_then r (By n)) e ∙ rest p.0 p.1 e (omega (arith, less, h)) (omega (arith, less, l)) ∙ sym (ap (λ r. and_then r (By m)) e)

  by_one : (a : A) (i : Input) → until goes turn final a i ≡ cond (goes (peek i)) ((turn a >>= By (length i.words)) i) (final a i)
  by_one a i = let e : length i.words + 1 ≡ suc (length i.words) = omega arith in rw e refl

  pub until_stop : (a : A) (i : Input) → goes (peek i) ≡ false → until goes turn final a i ≡ final a i
  until_stop a i h = by_one a i ∙ ap (λ v. cond v ((turn a >>= By (length i.words)) i) (final a i)) h

  pub until_turn : (a : A) (i : Input) → goes (peek i) ≡ true → until goes turn final a i ≡ and_then (turn a i) (until goes turn final)
  until_turn a i h = by_one a i ∙ ap (λ v. cond v ((turn a >>= By (length i.words)) i) (final a i)) h ∙ go (turn a i) refl
    where
      go : (r : Outcome A) → turn a i ≡ r → and_then (turn a i) (By (length i.words)) ≡ and_then (turn a i) (until goes turn final)
      go (Err x) e = ap (λ r. and_then r (By (length i.words))) e ∙ sym (ap (λ r. and_then r (until goes turn final)) e)
      go (Ok p) e =
          let less = shorter a p.0 i p.1 e in
          ap (λ r. and_then r (By (length i.words))) e ∙ enough (length i.words) (length p.1.words + 1) p.0 p.1 less (omega arith)
          ∙ sym (ap (λ r. and_then r (until goes turn final)) e)
