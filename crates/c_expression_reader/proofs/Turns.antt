-- Chains, step by step, beside the loops that read them; and one level further in.
use Rattle.std.proofs.Common.{◌≡◌, ◌≢◌, ℕ, zero, suc, ◌+◌, ◌-◌, ◌<◌, ◌≤◌, Some, None, Result, Ok, Err, refl, ap, ◌∙◌, arith}
use Rattle.affine_index.specs.declared.cond.Rel.{Rel}
use Rattle.text_tokens.specs.Words.{Input, peek, next}
use Rattle.reader_laws.specs.declared.fault.Fault.{Fault}
use Rattle.reader_laws.specs.declared.fault.Fault.TheVariants.{TooDeep}
use Rattle.reader_laws.specs.declared.fault.ReadError.{ReadError}
use Rattle.reader_laws.specs.declared.fault.ReadError.TheVariants.{Memory}
use Rattle.reader_laws.specs.Steps.{Parser, Outcome, ◌>>=◌, ◌>>◌, and_then, kind, misplaced, open_level, refusal, take_word}
use Rattle.reader_laws.specs.Chain.{Links, chain, joined}
use Rattle.reader_laws.proofs.Loops.{chain_stop, chain_full}
use Rattle.c_print.specs.declared.level.Level.{Level}
use Rattle.c_print.specs.declared.level.Level.TheVariants.{Choice, Product, Part}
use Rattle.c_text.specs.Expression.{Scope, Value, compared, join, max_chain, product_operator, products, relations, sum_operator, sums}
use Rattle.c_text.specs.Expression as grammar
use Rattle.c_expression_reader.specs.Values.{operator_of, placed}
use Rattle.c_expression_reader.specs.declared.value.Operator.{Operator}
use Rattle.c_expression_reader.specs.Expressions.{answer, choice, inner, more_comparisons, more_factors, more_summands, part, product, sum, turn}

-- one turn of a chain, where n operators were allowed and `at` were read
module _ {B O : Type 0} (links : Links Value B O) (operand : ℕ → Value → O → Parser B) where
  abbrev Turn : ℕ → Value → O → Parser Value
  Turn m left o = turn (links.room m) (operand m left o) (links.join o left)

  pub chain_turn : (n at : ℕ) (left : Value) (o : O) (i : Input) → at < n → links.operator (kind i) ≡ Some o
      → chain links operand (n - at) left i ≡ and_then (Turn (n - (at + 1)) left o i) (chain links operand (n - (at + 1)))
  unfolding chain turn
  chain_turn n at left o i below e =
      let next_is : n - at ≡ suc (n - (at + 1)) = omega arith in
      rw (next_is, e) (by_room (open_level (links.room (n - (at + 1))) i) (links.join o left))
    where
      by_join : (r : Result Value Fault) (j : Input)
          → joined (peek i) r (chain links operand (n - (at + 1))) j
          ≡ and_then (answer (placed (peek i).place r) j) (chain links operand (n - (at + 1)))
      by_join (Ok x) j = refl
      by_join (Err f) j = refl

      by_read : (r : Outcome B) (makes : B → Result Value Fault)
          → and_then r (λ right. joined (peek i) (makes right) (chain links operand (n - (at + 1))))
          ≡ and_then (and_then r (λ right. answer (placed (peek i).place (makes right)))) (chain links operand (n - (at + 1)))
      by_read (Ok p) makes = by_join (makes p.0) p.1
      by_read (Err x) makes = refl

      by_room : (r : Outcome (Unit {0})) (makes : B → Result Value Fault)
          → and_then r (λ u. take_word >> (operand (n - (at + 1)) left o >>= (λ right. joined (peek i) (makes right) (chain links operand (n - (at + 1))))))
          ≡ and_then (and_then (and_then r (λ u. take_word >> operand (n - (at + 1)) left o)) (λ right. answer (placed (peek i).place (makes right))))
          (chain links operand (n - (at + 1)))
      by_room (Ok p) makes = by_read (operand (n - (at + 1)) left o (next p.1)) makes
      by_room (Err x) makes = refl

  pub turn_went : (n at : ℕ) (left value : Value) (o : O) (i j : Input) → at < n → links.operator (kind i) ≡ Some o
      → Turn (n - (at + 1)) left o i ≡ Ok (value, j) → chain links operand (n - at) left i ≡ chain links operand (n - (at + 1)) value j
  turn_went n at left value o i j below e reads = chain_turn n at left o i below e ∙ ap (λ r. and_then r (chain links operand (n - (at + 1)))) reads

  pub turn_fell : (n at : ℕ) (left : Value) (o : O) (i : Input) (x : ReadError) → at < n → links.operator (kind i) ≡ Some o
      → (x ≢ Memory → Turn (n - (at + 1)) left o i ≡ Err x) → x ≢ Memory → chain links operand (n - at) left i ≡ Err x
  turn_fell n at left o i x below e reads not =
      chain_turn n at left o i below e ∙ ap (λ r. and_then r (chain links operand (n - (at + 1)))) (reads not)

pub chain_limit : max_chain ≡ 1000
unfolding max_chain
chain_limit = refl

module _ (scope : Scope) (below : Level → Parser Value) (levels : ℕ) where
  pub factors_stop : (n : ℕ) (left : Value) (i : Input) → product_operator (kind i) ≡ None → more_factors scope below levels n left i ≡ Ok (left, i)
  unfolding products
  factors_stop n left i h = chain_stop (products levels) (λ n a o. below Part) n left i h

  pub factors_went : (n at : ℕ) (left value : Value) (x : Operator) (i j : Input) → at < n → product_operator (kind i) ≡ Some (operator_of x)
      → turn levels (below Part) (join (operator_of x) left) i ≡ Ok (value, j)
      → more_factors scope below levels (n - at) left i ≡ more_factors scope below levels (n - (at + 1)) value j
  unfolding products
  factors_went n at left value x i j small h reads = turn_went (products levels) (λ n a o. below Part) n at left value (operator_of x) i j small h reads

  pub factors_fell : (n at : ℕ) (left : Value) (x : Operator) (i : Input) (e : ReadError) → at < n → product_operator (kind i) ≡ Some (operator_of x)
      → (e ≢ Memory → turn levels (below Part) (join (operator_of x) left) i ≡ Err e)
      → e ≢ Memory → more_factors scope below levels (n - at) left i ≡ Err e
  unfolding products
  factors_fell n at left x i e small h reads = turn_fell (products levels) (λ n a o. below Part) n at left (operator_of x) i e small h reads

  pub factors_full : (n at : ℕ) (left : Value) (x : Operator) (i : Input) → n ≤ at → product_operator (kind i) ≡ Some (operator_of x)
      → more_factors scope below levels (n - at) left i ≡ Err (refusal TooDeep i)
  unfolding products
  factors_full n at left x i done h = chain_full (products levels) (λ n a o. below Part) n at left (operator_of x) i done h

  pub summands_stop : (n : ℕ) (left : Value) (i : Input) → sum_operator (kind i) ≡ None → more_summands scope below levels n left i ≡ Ok (left, i)
  unfolding sums
  summands_stop n left i h = chain_stop (sums levels) (λ n a o. below Product) n left i h

  pub summands_went : (n at : ℕ) (left value : Value) (x : Operator) (i j : Input) → at < n → sum_operator (kind i) ≡ Some (operator_of x)
      → turn levels (below Product) (join (operator_of x) left) i ≡ Ok (value, j)
      → more_summands scope below levels (n - at) left i ≡ more_summands scope below levels (n - (at + 1)) value j
  unfolding sums
  summands_went n at left value x i j small h reads = turn_went (sums levels) (λ n a o. below Product) n at left value (operator_of x) i j small h reads

  pub summands_fell : (n at : ℕ) (left : Value) (x : Operator) (i : Input) (e : ReadError) → at < n → sum_operator (kind i) ≡ Some (operator_of x)
      → (e ≢ Memory → turn levels (below Product) (join (operator_of x) left) i ≡ Err e)
      → e ≢ Memory → more_summands scope below levels (n - at) left i ≡ Err e
  unfolding sums
  summands_fell n at left x i e small h reads = turn_fell (sums levels) (λ n a o. below Product) n at left (operator_of x) i e small h reads

  pub summands_full : (n at : ℕ) (left : Value) (x : Operator) (i : Input) → n ≤ at → sum_operator (kind i) ≡ Some (operator_of x)
      → more_summands scope below levels (n - at) left i ≡ Err (refusal TooDeep i)
  unfolding sums
  summands_full n at left x i done h = chain_full (sums levels) (λ n a o. below Product) n at left (operator_of x) i done h

  -- comparisons: one at most
  pub comparison_none : (n : ℕ) (left : Value) (i : Input) → grammar.relation (kind i) ≡ None → more_comparisons scope below levels n left i ≡ Ok (left, i)
  unfolding relations
  comparison_none n left i h = chain_stop relations (λ n a o. sum scope below levels) n left i h

  pub comparison_went : (left value : Value) (r : Rel) (i j : Input) → grammar.relation (kind i) ≡ Some r
      → turn 1 (sum scope below levels) (compared r left) i ≡ Ok (value, j)
      → more_comparisons scope below levels 1 left i ≡ more_comparisons scope below levels 0 value j
  unfolding relations
  comparison_went left value r i j h reads = turn_went relations (λ n a o. sum scope below levels) 1 0 left value r i j (omega arith) h reads

  pub comparison_fell : (left : Value) (r : Rel) (i : Input) (e : ReadError) → grammar.relation (kind i) ≡ Some r
      → (e ≢ Memory → turn 1 (sum scope below levels) (compared r left) i ≡ Err e)
      → e ≢ Memory → more_comparisons scope below levels 1 left i ≡ Err e
  unfolding relations
  comparison_fell left r i e h reads = turn_fell relations (λ n a o. sum scope below levels) 1 0 left r i e (omega arith) h reads

  pub comparison_two : (left : Value) (r : Rel) (i : Input) → grammar.relation (kind i) ≡ Some r
      → more_comparisons scope below levels 0 left i ≡ Err (refusal TooDeep i)
  unfolding relations
  comparison_two left r i h = chain_full relations (λ n a o. sum scope below levels) 0 0 left r i (omega arith) h

-- one level further in
pub inner_none : (scope : Scope) (levels : ℕ) (place : Level) (i : Input) → levels ≡ 0 → inner scope levels place i ≡ Err (misplaced i)
unfolding inner
inner_none scope levels place i e = rw e refl

pub inner_choice : (scope : Scope) (levels : ℕ) (i : Input) → 0 < levels
    → inner scope levels Choice i ≡ choice scope (inner scope (levels - 1)) (levels - 1) i
unfolding inner
inner_choice scope zero i some = absurd (omega arith)
inner_choice scope (suc levels) i some = let e : suc levels - 1 ≡ levels = omega arith in rw e refl

pub inner_product : (scope : Scope) (levels : ℕ) (i : Input) → 0 < levels
    → inner scope levels Product i ≡ product scope (inner scope (levels - 1)) (levels - 1) i
unfolding inner
inner_product scope zero i some = absurd (omega arith)
inner_product scope (suc levels) i some = let e : suc levels - 1 ≡ levels = omega arith in rw e refl

pub inner_part : (scope : Scope) (levels : ℕ) (i : Input) → 0 < levels
    → inner scope levels Part i ≡ part scope (inner scope (levels - 1)) (levels - 1) i
unfolding inner
inner_part scope zero i some = absurd (omega arith)
inner_part scope (suc levels) i some = let e : suc levels - 1 ≡ levels = omega arith in rw e refl
