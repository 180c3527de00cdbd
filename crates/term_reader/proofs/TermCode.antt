-- Chains of a term, beside the loops that read them.
use Rattle.std.proofs.Common.{◌≡◌, ◌≢◌, ℕ, zero, suc, ◌+◌, ◌-◌, ◌<◌, ◌≤◌, true, false, Some, None, Ok, Err, refl, ap, ◌∙◌}
use Rattle.std.proofs.Common.{arith}
use Rattle.text_tokens.specs.declared.kind.Kind.{Kind}
use Rattle.text_tokens.specs.declared.kind.Kind.TheVariants as k
use Rattle.text_tokens.specs.Kinds.{same_kind}
use Rattle.text_tokens.specs.Words.{Input, next}
use Rattle.term_tree.specs.declared.term.Term.{Term}
use Rattle.term_tree.specs.Syntax as term
use Rattle.reader_laws.specs.declared.fault.Fault.TheVariants.{TooDeep}
use Rattle.reader_laws.specs.declared.fault.ReadError.{ReadError}
use Rattle.reader_laws.specs.declared.fault.ReadError.TheVariants.{Memory}
use Rattle.reader_laws.specs.Levels.{word_in}
use Rattle.reader_laws.specs.Steps.{Outcome, and_then, pure, refusal, kind, no_value}
use Rattle.reader_laws.proofs.Outcomes.{is_same}
use Rattle.reader_laws.proofs.Loops.{chain_stop, chain_full}
use Rattle.source_grammar.specs.Scope.{Scope, index_name}
use Rattle.source_grammar.specs.Index.{Sum as index_sum}
use Rattle.source_grammar.specs.ReadIndex.{index}
use Rattle.source_grammar.specs.ReadTerms.{factor, in_brackets, inner, product, whole}
use Rattle.source_grammar.specs.Terms.{Factor, Product, Whole, bracket, brackets, max_chain, product_sign, products, sum_sign, sums}
use Rattle.term_reader.specs.declared.forms.Sign.{Sign}
use Rattle.term_reader.specs.Forms.{signed_term}
use Rattle.term_reader.specs.Steps.{more_brackets, more_factors, more_terms, next_bracket, next_factor, next_term}
use Rattle.term_reader.proofs.ChainLaws.{chain_deep, chain_turn}

pub chain_limit : max_chain ≡ 1000
unfolding max_chain
chain_limit = refl

-- ---- one level further in

pub inner_whole : (levels : ℕ) (scope : Scope) (i : Input) → 0 < levels → inner levels Whole scope i ≡ whole (inner (levels - 1)) (levels - 1) scope i
unfolding inner
inner_whole zero scope i some = absurd (omega arith)
inner_whole (suc levels) scope i some = let e : suc levels - 1 ≡ levels = omega arith in rw e refl

pub inner_product : (levels : ℕ) (scope : Scope) (i : Input) → 0 < levels → inner levels Product scope i ≡ product (inner (levels - 1)) (levels - 1) scope i
unfolding inner
inner_product zero scope i some = absurd (omega arith)
inner_product (suc levels) scope i some = let e : suc levels - 1 ≡ levels = omega arith in rw e refl

pub inner_factor : (levels : ℕ) (scope : Scope) (i : Input) → 0 < levels → inner levels Factor scope i ≡ factor (inner (levels - 1)) (levels - 1) scope i
unfolding inner
inner_factor zero scope i some = absurd (omega arith)
inner_factor (suc levels) scope i some = let e : suc levels - 1 ≡ levels = omega arith in rw e refl

-- ---- brackets

no_bracket : (kd : Kind) → same_kind kd k.LBracket ≡ false → bracket kd ≡ None
unfolding same_kind
no_bracket k.LBracket h = absurd cc
no_bracket _ h = refl

a_bracket : (kd : Kind) → same_kind kd k.LBracket ≡ true → bracket kd ≡ Some tt
a_bracket kd h = ap bracket (is_same kd k.LBracket h)

bracketed : (scope : Scope) (n : ℕ) (left : Term) (r : Outcome _)
    → and_then (and_then r (λ x. let p = word_in n k.RBracket no_value in λ i. and_then (p i) (λ _. pure x))) (λ x. pure (term.index left x))
    ≡ and_then r (λ x. let p = word_in n k.RBracket no_value in λ i. and_then (p i) (λ _. pure (term.index left x)))
bracketed scope n left (Err e) = refl
bracketed scope n left (Ok p) = go (word_in n k.RBracket no_value p.1)
  where
    go : (r : Outcome (Unit {0})) → and_then (and_then r (λ _. pure p.0)) (λ x. pure (term.index left x)) ≡ and_then r (λ _. pure (term.index left p.0))
    go (Ok q) = refl
    go (Err e) = refl

module _ (scope : Scope) (levels : ℕ) where
  pub brackets_stop : (n : ℕ) (left : Term) (i : Input) → same_kind (kind i) k.LBracket ≡ false → more_brackets scope levels n left i ≡ Ok (left, i)
  unfolding brackets
  brackets_stop n left i e = chain_stop brackets (λ n a o. in_brackets (inner levels) levels scope n) n left i (no_bracket (kind i) e)

  brackets_turn : (n at : ℕ) (left : Term) (i : Input) → at < n → same_kind (kind i) k.LBracket ≡ true
      → more_brackets scope levels (n - at) left i ≡ and_then (next_bracket scope (n - (at + 1)) left (next i)) (more_brackets scope levels (n - (at + 1)))
  unfolding brackets next_bracket
  brackets_turn n at left i below e =
      chain_turn brackets (λ n a o. in_brackets (inner levels) levels scope n) (λ o a x. term.index a x) (λ o a x. refl) n at left tt i below (omega arith)
      (a_bracket (kind i) e)
      ∙ ap (λ r. and_then r (more_brackets scope levels (n - (at + 1))))
      (bracketed scope (n - (at + 1)) left (index (index_name scope) (n - (at + 1)) index_sum (next i)))

  pub brackets_went : (n at : ℕ) (left value : Term) (i j : Input) → at < n → same_kind (kind i) k.LBracket ≡ true
      → next_bracket scope (n - (at + 1)) left (next i) ≡ Ok (value, j)
      → more_brackets scope levels (n - at) left i ≡ more_brackets scope levels (n - (at + 1)) value j
  brackets_went n at left value i j below e reads = brackets_turn n at left i below e ∙ ap (λ r. and_then r (more_brackets scope levels (n - (at + 1)))) reads

  pub brackets_fell : (n at : ℕ) (left : Term) (i : Input) (x : ReadError) → at < n → same_kind (kind i) k.LBracket ≡ true
      → (x ≢ Memory → next_bracket scope (n - (at + 1)) left (next i) ≡ Err x) → x ≢ Memory → more_brackets scope levels (n - at) left i ≡ Err x
  brackets_fell n at left i x below e reads = λ not. brackets_turn n at left i below e
      ∙ ap (λ r. and_then r (more_brackets scope levels (n - (at + 1)))) (reads not)

  pub brackets_full : (n at : ℕ) (left : Term) (i : Input) → n ≤ at → same_kind (kind i) k.LBracket ≡ true
      → more_brackets scope levels (n - at) left i ≡ Err (refusal TooDeep i)
  unfolding brackets
  brackets_full n at left i done e = chain_full brackets (λ n a o. in_brackets (inner levels) levels scope n) n at left tt i done (a_bracket (kind i) e)

-- ---- products

no_star : (kd : Kind) → same_kind kd k.Star ≡ false → product_sign kd ≡ None
unfolding same_kind
no_star k.Star h = absurd cc
no_star _ h = refl

a_star : (kd : Kind) → same_kind kd k.Star ≡ true → product_sign kd ≡ Some term.mul
a_star kd h = ap product_sign (is_same kd k.Star h)

module _ (scope : Scope) (levels : ℕ) where
  pub factors_stop : (n : ℕ) (left : Term) (i : Input) → same_kind (kind i) k.Star ≡ false → more_factors scope levels n left i ≡ Ok (left, i)
  unfolding products
  factors_stop n left i e = chain_stop (products levels) (λ n a o. inner levels Factor scope) n left i (no_star (kind i) e)

  factors_turn : (n at : ℕ) (left : Term) (i : Input) → at < n → 0 < levels → same_kind (kind i) k.Star ≡ true
      → more_factors scope levels (n - at) left i ≡ and_then (next_factor scope levels left (next i)) (more_factors scope levels (n - (at + 1)))
  unfolding products next_factor
  factors_turn n at left i below some e = chain_turn (products levels) (λ n a o. inner levels Factor scope) (λ f a b. f a b) (λ f a b. refl) n at left term.mul
      i below some (a_star (kind i) e)

  pub factors_went : (n at : ℕ) (left value : Term) (i j : Input) → at < n → 0 < levels → same_kind (kind i) k.Star ≡ true
      → next_factor scope levels left (next i) ≡ Ok (value, j) → more_factors scope levels (n - at) left i ≡ more_factors scope levels (n - (at + 1)) value j
  factors_went n at left value i j below some e reads = factors_turn n at left i below some e
      ∙ ap (λ r. and_then r (more_factors scope levels (n - (at + 1)))) reads

  pub factors_fell : (n at : ℕ) (left : Term) (i : Input) (x : ReadError) → at < n → 0 < levels → same_kind (kind i) k.Star ≡ true
      → (x ≢ Memory → next_factor scope levels left (next i) ≡ Err x) → x ≢ Memory → more_factors scope levels (n - at) left i ≡ Err x
  factors_fell n at left i x below some e reads = λ not. factors_turn n at left i below some e
      ∙ ap (λ r. and_then r (more_factors scope levels (n - (at + 1)))) (reads not)

  pub factors_full : (n at : ℕ) (left : Term) (i : Input) → n ≤ at → same_kind (kind i) k.Star ≡ true
      → more_factors scope levels (n - at) left i ≡ Err (refusal TooDeep i)
  unfolding products
  factors_full n at left i done e = chain_full (products levels) (λ n a o. inner levels Factor scope) n at left term.mul i done (a_star (kind i) e)

  pub factors_deep : (n at : ℕ) (left : Term) (i : Input) → at < n → levels ≡ 0 → same_kind (kind i) k.Star ≡ true
      → more_factors scope levels (n - at) left i ≡ Err (refusal TooDeep i)
  unfolding products
  factors_deep n at left i below deep e = chain_deep (products levels) (λ n a o. inner levels Factor scope) n at left term.mul i below deep (a_star (kind i) e)

  -- ---- sums

  pub terms_stop : (n : ℕ) (left : Term) (i : Input) → sum_sign (kind i) ≡ None → more_terms scope levels n left i ≡ Ok (left, i)
  unfolding sums
  terms_stop n left i e = chain_stop (sums levels) (λ n a o. inner levels Product scope) n left i e

  terms_turn : (n at : ℕ) (left : Term) (sign : Sign) (i : Input) → at < n → 0 < levels → sum_sign (kind i) ≡ Some (signed_term sign)
      → more_terms scope levels (n - at) left i ≡ and_then (next_term scope levels left sign (next i)) (more_terms scope levels (n - (at + 1)))
  unfolding sums next_term
  terms_turn n at left sign i below some e = chain_turn (sums levels) (λ n a o. inner levels Product scope) (λ f a b. f a b) (λ f a b. refl) n at left
      (signed_term sign) i below some e

  pub terms_went : (n at : ℕ) (left value : Term) (sign : Sign) (i j : Input) → at < n → 0 < levels → sum_sign (kind i) ≡ Some (signed_term sign)
      → next_term scope levels left sign (next i) ≡ Ok (value, j) → more_terms scope levels (n - at) left i ≡ more_terms scope levels (n - (at + 1)) value j
  terms_went n at left value sign i j below some e reads = terms_turn n at left sign i below some e
      ∙ ap (λ r. and_then r (more_terms scope levels (n - (at + 1)))) reads

  pub terms_fell : (n at : ℕ) (left : Term) (sign : Sign) (i : Input) (x : ReadError) → at < n → 0 < levels → sum_sign (kind i) ≡ Some (signed_term sign)
      → (x ≢ Memory → next_term scope levels left sign (next i) ≡ Err x) → x ≢ Memory → more_terms scope levels (n - at) left i ≡ Err x
  terms_fell n at left sign i x below some e reads = λ not. terms_turn n at left sign i below some e
      ∙ ap (λ r. and_then r (more_terms scope levels (n - (at + 1)))) (reads not)

  pub terms_full : (n at : ℕ) (left : Term) (sign : Sign) (i : Input) → n ≤ at → sum_sign (kind i) ≡ Some (signed_term sign)
      → more_terms scope levels (n - at) left i ≡ Err (refusal TooDeep i)
  unfolding sums
  terms_full n at left sign i done e = chain_full (sums levels) (λ n a o. inner levels Product scope) n at left (signed_term sign) i done e

  pub terms_deep : (n at : ℕ) (left : Term) (sign : Sign) (i : Input) → at < n → levels ≡ 0 → sum_sign (kind i) ≡ Some (signed_term sign)
      → more_terms scope levels (n - at) left i ≡ Err (refusal TooDeep i)
  unfolding sums
  terms_deep n at left sign i below deep e = chain_deep (sums levels) (λ n a o. inner levels Product scope) n at left (signed_term sign) i below deep e
