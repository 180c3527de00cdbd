-- Chains whose operators always join, beside the loops that read them.
use Rattle.std.proofs.Common.{◌≡◌, ℕ, suc, ◌+◌, ◌-◌, ◌<◌, Some, Result, Ok, Err, refl, ap, ◌∙◌, arith}
use Rattle.text_tokens.specs.Words.{Word, Input, peek, next}
use Rattle.reader_laws.specs.declared.fault.Fault.{Fault}
use Rattle.reader_laws.specs.declared.fault.Fault.TheVariants.{TooDeep}
use Rattle.reader_laws.specs.Steps.{Parser, Outcome, and_then, ◌>>=◌, pure, refusal, kind}
use Rattle.reader_laws.specs.Chain.{Links, joined, chain}
use Rattle.reader_laws.proofs.Loops.{chain_go}

module _ {A B O : Type 0} (links : Links A B O) (operand : ℕ → A → O → Parser B) where
  -- no level is left for an operator
  pub chain_deep : (n at : ℕ) (left : A) (o : O) (i : Input) → at < n → links.room (n - (at + 1)) ≡ 0 → links.operator (kind i) ≡ Some o
      → chain links operand (n - at) left i ≡ Err (refusal TooDeep i)
  unfolding chain
  chain_deep n at left o i below deep e =
      let turn : n - at ≡ suc (n - (at + 1)) = omega arith in
      rw (turn, e, deep) refl

  module _ (made : O → A → B → A) (joins : (o : O) (a : A) (b : B) → links.join o a b ≡ Ok (made o a b)) where
    -- what follows an operator, joined to what is to its left
    abbrev pub step : ℕ → A → O → Parser A
    step n left o = operand n left o >>= λ right. pure (made o left right)

    all : (w : Word) (o : O) (left : A) (more : A → Parser A) (r : Outcome B)
        → and_then r (λ right. joined w (links.join o left right) more) ≡ and_then (and_then r (λ right. pure (made o left right))) more
    all w o left more (Ok p) = ap (λ (v : Result A Fault). joined w v more p.1) (joins o left p.0)
    all w o left more (Err e) = refl

    pub chain_turn : (n at : ℕ) (left : A) (o : O) (i : Input) → at < n → 0 < links.room (n - (at + 1)) → links.operator (kind i) ≡ Some o
        → chain links operand (n - at) left i ≡ and_then (step (n - (at + 1)) left o (next i)) (chain links operand (n - (at + 1)))
    chain_turn n at left o i below room e =
        chain_go links operand n at left o i (operand (n - (at + 1)) left o (next i)) below room e refl
        ∙ all (peek i) o left (chain links operand (n - (at + 1))) (operand (n - (at + 1)) left o (next i))
