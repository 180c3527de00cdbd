-- Recursions on a count, beside loops that count up.
use Rattle.std.proofs.Common.{◌≡◌, ℕ, zero, suc, ◌+◌, ◌-◌, ◌<◌, ◌≤◌, Some, None, Ok, Err, refl, ap, ◌∙◌, arith}
use Rattle.text_tokens.specs.Words.{Input, peek, next}
use Rattle.reader_laws.specs.declared.fault.Fault.{Fault}
use Rattle.reader_laws.specs.declared.fault.Fault.TheVariants.{TooDeep}
use Rattle.reader_laws.specs.declared.fault.ReadError.{ReadError}
use Rattle.reader_laws.specs.declared.fault.ReadError.TheVariants.{Refused}
use Rattle.reader_laws.specs.Steps.{Parser, Outcome, and_then, refusal, kind, open_level}
use Rattle.reader_laws.specs.Chain.{Links, joined, chain}
use Rattle.reader_laws.proofs.Outcomes as outcomes

module _ {A B O : Type 0} (links : Links A B O) (operand : ℕ → A → O → Parser B) where
  pub chain_stop : (n : ℕ) (left : A) (i : Input) → links.operator (kind i) ≡ None → chain links operand n left i ≡ Ok (left, i)
  unfolding chain
  chain_stop zero left i e = rw e refl
  chain_stop (suc n) left i e = rw e refl

  -- one more operator, where n were allowed and `at` were read
  pub chain_go : (n at : ℕ) (left : A) (o : O) (i : Input) (r : Outcome B) → at < n → 0 < links.room (n - (at + 1)) → links.operator (kind i) ≡ Some o
      → operand (n - (at + 1)) left o (next i) ≡ r
      → chain links operand (n - at) left i ≡ and_then r (λ right. joined (peek i) (links.join o left right) (chain links operand (n - (at + 1))))
  unfolding chain
  chain_go n at left o i r below room e reads =
      let turn : n - at ≡ suc (n - (at + 1)) = omega arith in
      let opens = outcomes.open_some (links.room (n - (at + 1))) i room in
      rw (turn, e, opens, reads) refl

  pub chain_went : (n at : ℕ) (left value : A) (right : B) (o : O) (i j : Input) → at < n → 0 < links.room (n - (at + 1)) → links.operator (kind i) ≡ Some o
      → operand (n - (at + 1)) left o (next i) ≡ Ok (right, j) → links.join o left right ≡ Ok value
      → chain links operand (n - at) left i ≡ chain links operand (n - (at + 1)) value j
  chain_went n at left value right o i j below room e reads joins =
      chain_go n at left o i (Ok (right, j)) below room e reads ∙ ap (λ r. joined (peek i) r (chain links operand (n - (at + 1))) j) joins

  pub chain_fell : (n at : ℕ) (left : A) (o : O) (i : Input) (x : ReadError) → at < n → 0 < links.room (n - (at + 1)) → links.operator (kind i) ≡ Some o
      → operand (n - (at + 1)) left o (next i) ≡ Err x → chain links operand (n - at) left i ≡ Err x
  chain_fell n at left o i x below room e reads = chain_go n at left o i (Err x) below room e reads

  -- the fault stands at the operator
  pub chain_clashed : (n at : ℕ) (left : A) (right : B) (o : O) (i j : Input) (fault : Fault) → at < n → 0 < links.room (n - (at + 1))
      → links.operator (kind i) ≡ Some o
      → operand (n - (at + 1)) left o (next i) ≡ Ok (right, j) → links.join o left right ≡ Err fault
      → chain links operand (n - at) left i ≡ Err (Refused fault (peek i).place)
  chain_clashed n at left right o i j fault below room e reads joins =
      chain_go n at left o i (Ok (right, j)) below room e reads ∙ ap (λ r. joined (peek i) r (chain links operand (n - (at + 1))) j) joins

  pub chain_full : (n at : ℕ) (left : A) (o : O) (i : Input) → n ≤ at → links.operator (kind i) ≡ Some o
      → chain links operand (n - at) left i ≡ Err (refusal TooDeep i)
  unfolding chain
  chain_full n at left o i done e =
      let none : n - at ≡ 0 = omega arith in
      rw (none, e) refl

pub open_some : (levels : ℕ) (i : Input) → 0 < levels → open_level levels i ≡ Ok (tt, i)
open_some levels i some = outcomes.open_some levels i some

pub open_none : (levels : ℕ) (i : Input) → levels ≡ 0 → open_level levels i ≡ Err (refusal TooDeep i)
open_none levels i none = rw none refl
