-- Index expressions are read as their grammar says.
use Rattle.std.proofs.Common.{◌≡◌, ℕ, zero, suc, ◌-◌, ◌&&◌, pos, cond, Bool, true, false, List, Some, None, Result, Ok, Err, refl, subst}
use Rattle.std.specs.Int.RustNames.{unsigned_abs}
use Rattle.text_tokens.specs.declared.kind.Kind.{Kind}
use Rattle.text_tokens.specs.declared.kind.Kind.TheVariants as k
use Rattle.text_tokens.specs.Kinds.{Text}
use Rattle.text_tokens.specs.Words.{Word, Input}
use Rattle.affine_index.specs.Form.{literal_form}
use Rattle.affine_index.specs.Normal.{coefficients_fit, holds_var, is_short}
use Rattle.affine_index.specs.Product.{product_of}
use Rattle.affine_index.specs.Quotient.{quotient_of, remainder_of}
use Rattle.affine_index.specs.Sum.{difference_of, sum_of}
use Rattle.affine_index.specs.declared.form.Items.{Items}
use Rattle.reader_laws.specs.declared.fault.Fault.{Fault}
use Rattle.reader_laws.specs.declared.fault.Fault.TheVariants.{NotAffine, CoefficientTooLarge, IndexTooLong}
use Rattle.reader_laws.specs.Steps.{Parser, ◌>>=◌, pure, kind, no_value}
use Rattle.reader_laws.specs.Chain.{chain}
use Rattle.reader_laws.specs.Grammar.{IsOfJoining, IsNothing, IsChain}
use Rattle.reader_laws.proofs.Outcomes.{ahead}
use Rattle.reader_laws.proofs.Lawful.{Lawful, never, lawful_both, lawful_pure, lawful_choice, lawful_unexpected}
use Rattle.reader_laws.proofs.Chains.{lawful_chain, rest_frees}
use Rattle.reader_laws.proofs.Starts.{word_starts, both_starts}
use Rattle.source_grammar.specs.Limits.{tested, multiplied}
use Rattle.reader_laws.specs.Levels.{word_in}
use Rattle.source_grammar.specs.declared.operator.Operator.{Operator}
use Rattle.source_grammar.specs.declared.operator.Operator.TheVariants.{Plus, Minus, Times, Over, Modulo}
use Rattle.source_grammar.specs.Index.{Level, Sum, Product, Part, join, literal_value, divisor_value, sum_operator, product_operator, sums, products, max_text}
use Rattle.source_grammar.specs.Index.{IsParenthesized, IsNegated, IsPartBy, IsPart, IsRight, IsProduct, IsSum, IsByLevel, IsInner, IsIndex}
use Rattle.source_grammar.specs.ReadIndex.{parenthesized, negated, part_by, part, right_of, product, sum, by_level, inner, index}
use Rattle.reader_laws.proofs.LevelLaws.{lawful_unexpected_in, lawful_word_in, lawful_opening, lawful_closed}

abbrev pub product_goes_on : Kind → Bool
product_goes_on k.Star = true
product_goes_on k.Slash = true
product_goes_on k.Percent = true
product_goes_on _ = false

abbrev pub sum_goes_on : Kind → Bool
sum_goes_on k.Plus = true
sum_goes_on k.Minus = true
sum_goes_on kd = product_goes_on kd

abbrev pub goes_on : Level → Kind → Bool
goes_on Sum = sum_goes_on
goes_on Product = product_goes_on
goes_on Part = never

pub product_no_end : (kd : Kind) (o : Operator) → product_operator kd ≡ Some o → kd ≡ k.End → ⊥
product_no_end k.End o h is = cc
product_no_end _ o h is = cc

pub sum_no_end : (kd : Kind) (o : Operator) → sum_operator kd ≡ Some o → kd ≡ k.End → ⊥
sum_no_end k.End o h is = cc
sum_no_end _ o h is = cc

product_stops : (kd : Kind) → product_goes_on kd ≡ false → (product_operator kd ≡ None) × (never kd ≡ false)
product_stops k.Star h = absurd cc
product_stops k.Slash h = absurd cc
product_stops k.Percent h = absurd cc
product_stops _ h = (refl, refl)

sum_stops : (kd : Kind) → sum_goes_on kd ≡ false → (sum_operator kd ≡ None) × (product_goes_on kd ≡ false)
sum_stops k.Plus h = absurd cc
sum_stops k.Minus h = absurd cc
sum_stops k.Star h = absurd cc
sum_stops k.Slash h = absurd cc
sum_stops k.Percent h = absurd cc
sum_stops _ h = (refl, refl)

sum_frees : (kd : Kind) (o : Operator) → sum_operator kd ≡ Some o → product_goes_on kd ≡ false
sum_frees k.Plus o h = refl
sum_frees k.Minus o h = refl
sum_frees _ o h = absurd cc

-- ---- the faults of joining

abbrev err : Fault → Result Items Fault
err f = Err f

same_fault : (f g : Fault) → err f ≡ err g → f ≡ g
same_fault f g h = cc

pub tested_faults : (i : Items) (fault : Fault) → tested i ≡ Err fault → IsOfJoining fault
tested_faults i fault h = go (coefficients_fit i) (is_short i) h
  where
    go : (a b : Bool) → cond a (cond b (let r : Result Items Fault = Ok i in r) (Err IndexTooLong)) (Err CoefficientTooLarge) ≡ Err fault → IsOfJoining fault
    go true true h = absurd cc
    go true false h = subst (λ (f : Fault). IsOfJoining f) (same_fault IndexTooLong fault h) tt
    go false b h = subst (λ (f : Fault). IsOfJoining f) (same_fault CoefficientTooLarge fault h) tt

multiplied_faults : (a b : Items) (fault : Fault) → multiplied a b ≡ Err fault → IsOfJoining fault
multiplied_faults a b fault h = go (holds_var a && holds_var b) h
  where
    go : (v : Bool) → cond v (let r : Result Items Fault = Err NotAffine in r) (tested (product_of a b)) ≡ Err fault → IsOfJoining fault
    go true h = subst (λ (f : Fault). IsOfJoining f) (same_fault NotAffine fault h) tt
    go false h = tested_faults (product_of a b) fault h

pub join_faults : (o : Operator) (a b : Items) (fault : Fault) → join o a b ≡ Err fault → IsOfJoining fault
join_faults Plus a b fault h = tested_faults (sum_of a b) fault h
join_faults Minus a b fault h = tested_faults (difference_of a b) fault h
join_faults Times a b fault h = multiplied_faults a b fault h
join_faults Over a b fault h = tested_faults (quotient_of a (unsigned_abs b.constant)) fault h
join_faults Modulo a b fault h = tested_faults (remainder_of a (unsigned_abs b.constant)) fault h

module _ (names : Text → Result Items Fault) (inside : Level → Parser Items) (below : Level → List Word → Items → Type 0) (levels : ℕ)
    (h : (level : Level) → Lawful (inside level) (below level) (goes_on level)) where
  lawful_parenthesized : Lawful (parenthesized names inside levels) (IsParenthesized names below levels) never
  unfolding parenthesized
  lawful_parenthesized = lawful_opening k.LParen _ levels (inside Sum >>= λ x. (word_in (levels - 1) k.RParen no_value >>= λ _. pure x)) never
      (λ (z : k.LParen ≡ k.End). cc)
      (lawful_closed (levels - 1) k.RParen (inside Sum) (below Sum) sum_goes_on (λ (z : k.RParen ≡ k.End). cc) refl (h Sum))

  lawful_negated : Lawful (negated names inside levels) (IsNegated names below levels) never
  unfolding negated
  lawful_negated =
      let turn : Items → Items = λ x. difference_of (literal_form (pos 0)) x in
      lawful_opening k.Minus _ levels (inside Part >>= λ x. pure (turn x)) never (λ (z : k.Minus ≡ k.End). cc)
      (lawful_both (inside Part) (λ x. pure (turn x)) (below Part) (λ x. IsNothing (turn x)) never never (h Part) (λ x. lawful_pure (turn x) never)
      (λ x ws y j is e. refl))

  by_kind : (kd : Kind) → Lawful (part_by names inside levels kd) (IsPartBy names below levels kd) never
  by_kind k.Number = lawful_word_in levels k.Number literal_value (λ (z : k.Number ≡ k.End). cc)
  by_kind k.Name = lawful_word_in levels k.Name names (λ (z : k.Name ≡ k.End). cc)
  by_kind k.LParen = lawful_parenthesized
  by_kind k.Minus = lawful_negated
  by_kind _ = lawful_unexpected_in levels never

  starts : (kd : Kind) (ws : List Word) (x : Items) (j : Input) → IsPartBy names below levels kd ws x → kind (ahead ws j) ≡ kd
  starts k.Number ws x j is = word_starts k.Number literal_value ws x j is
  starts k.Name ws x j is = word_starts k.Name names ws x j is
  starts k.LParen ws x j is = both_starts k.LParen no_value _ ws x j is.1
  starts k.Minus ws x j is = both_starts k.Minus no_value _ ws x j is.1
  starts _ ws x j is = absurd is

  pub lawful_part : Lawful (part names inside levels) (IsPart names below levels) never
  unfolding part
  lawful_part = lawful_choice (part_by names inside levels) (IsPartBy names below levels) never by_kind starts

  pub lawful_right : (o : Operator) → Lawful (right_of names inside levels o) (IsRight names below levels o) never
  lawful_right Over = lawful_word_in levels k.Number divisor_value (λ (z : k.Number ≡ k.End). cc)
  lawful_right Modulo = lawful_word_in levels k.Number divisor_value (λ (z : k.Number ≡ k.End). cc)
  lawful_right Plus = lawful_part
  lawful_right Minus = lawful_part
  lawful_right Times = lawful_part

  lawful_products : (x : Items)
      → Lawful (chain products (λ n a o. right_of names inside levels o) max_text x) (IsChain products (λ n a o. IsRight names below levels o) max_text x)
      product_goes_on
  unfolding products
  lawful_products x = lawful_chain products (λ n a o. right_of names inside levels o) (λ n a o. IsRight names below levels o) never product_goes_on
      product_no_end (λ kd o e. refl) product_stops join_faults (λ n a o. lawful_right o) max_text x

  pub lawful_product : Lawful (product names inside levels) (IsProduct names below levels) product_goes_on
  unfolding product
  lawful_product = lawful_both (part names inside levels) (λ x. chain products (λ n a o. right_of names inside levels o) max_text x) (IsPart names below levels)
      _ never product_goes_on
      lawful_part lawful_products (λ x ws y j is e. refl)

  lawful_sums : (x : Items)
      → Lawful (chain sums (λ n a o. product names inside levels) max_text x) (IsChain sums (λ n a o. IsProduct names below levels) max_text x) sum_goes_on
  unfolding sums
  lawful_sums x = lawful_chain sums (λ n a o. product names inside levels) (λ n a o. IsProduct names below levels) product_goes_on sum_goes_on sum_no_end
      sum_frees sum_stops join_faults (λ n a o. lawful_product) max_text x

  sums_free : (x : Items) (ws : List Word) (y : Items) (j : Input) → IsChain sums (λ n a o. IsProduct names below levels) max_text x ws y
      → sum_goes_on (kind j) ≡ false → product_goes_on (kind (ahead ws j)) ≡ false
  unfolding sums
  sums_free x ws y j is e = rest_frees sums (λ n a o. product names inside levels) (λ n a o. IsProduct names below levels) product_goes_on sum_goes_on
      sum_no_end sum_frees sum_stops join_faults (λ n a o. lawful_product) max_text x ws y j is e

  pub lawful_sum : Lawful (sum names inside levels) (IsSum names below levels) sum_goes_on
  unfolding sum
  lawful_sum = lawful_both (product names inside levels) (λ x. chain sums (λ n a o. product names inside levels) max_text x) (IsProduct names below levels) _
      product_goes_on sum_goes_on
      lawful_product lawful_sums sums_free

  pub lawful_level : (level : Level) → Lawful (by_level names inside levels level) (IsByLevel names below levels level) (goes_on level)
  lawful_level Sum = lawful_sum
  lawful_level Product = lawful_product
  lawful_level Part = lawful_part

pub lawful_inner : (names : Text → Result Items Fault) (levels : ℕ) (level : Level)
    → Lawful (inner names levels level) (IsInner names levels level) (goes_on level)
unfolding inner
lawful_inner names zero level = lawful_unexpected (goes_on level)
lawful_inner names (suc levels) level = lawful_level names (inner names levels) (IsInner names levels) levels (lawful_inner names levels) level

pub lawful_index : (names : Text → Result Items Fault) (levels : ℕ) (level : Level)
    → Lawful (index names levels level) (IsIndex names levels level) (goes_on level)
lawful_index names levels level = lawful_level names (inner names levels) (IsInner names levels) levels (lawful_inner names levels) level
