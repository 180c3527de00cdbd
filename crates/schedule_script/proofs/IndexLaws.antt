-- Index expressions are read as their grammar says.
use Rattle.std.proofs.Common.{◌≡◌, ℕ, zero, suc, Bool, true, false, List, Some, None, refl}
use Rattle.text_tokens.specs.declared.kind.Kind.{Kind}
use Rattle.text_tokens.specs.declared.kind.Kind.TheVariants as k
use Rattle.text_tokens.specs.Words.{Word, Input}
use Rattle.reader_laws.specs.Steps.{Parser, ◌>>=◌, pure, kind, a_word, itself, no_value}
use Rattle.reader_laws.specs.Grammar.{IsNothing}
use Rattle.reader_laws.proofs.Outcomes.{ahead}
use Rattle.reader_laws.proofs.Lawful.{Lawful, Frees, never, lawful_both, lawful_pure, lawful_choice, lawful_unexpected}
use Rattle.reader_laws.proofs.LevelLaws.{lawful_opening}
use Rattle.reader_laws.proofs.Chains.{lawful_chain, rest_frees}
use Rattle.reader_laws.proofs.Starts.{both_starts, word_then}
use Rattle.schedule_script.proofs.Depths.{limited_faults}
use Rattle.schedule_script.proofs.Following.{before_word, frees_nothing}
use Rattle.schedule_script.specs.declared.tree.IxTree.{IxTree, Num, Name}
use Rattle.schedule_script.specs.Syntax as tree
use Rattle.schedule_script.specs.Words.{word_value, divisor_value, most_items}
use Rattle.schedule_script.specs.Index.{Level, Sum, Part, sum_sign, product_sign, sums, products, number_part, name_part, parenthesized, negated, part_by}
use Rattle.schedule_script.specs.Index.{part, factor_after, more_factors, product, summand_after, more_summands, sum, by_level, inner, index, IsNumberPart}
use Rattle.schedule_script.specs.Index.{IsNamePart, IsParenthesized, IsNegated, IsPartBy, IsPart, IsFactorAfter, AreFactors, IsProduct, IsSummandAfter}
use Rattle.schedule_script.specs.Index.{AreSummands, IsSum, IsByLevel, IsInner, IsIndex}

abbrev pub product_goes_on : Kind → Bool
product_goes_on k.Star = true
product_goes_on k.Slash = true
product_goes_on k.Percent = true
product_goes_on _ = false

abbrev pub sum_goes_on : Kind → Bool
sum_goes_on k.Plus = true
sum_goes_on k.Minus = true
sum_goes_on kd = product_goes_on kd

abbrev pub goes_on : Level → Kind → Bool
goes_on Sum = sum_goes_on
goes_on Part = never

product_no_end : (kd o : Kind) → product_sign kd ≡ Some o → kd ≡ k.End → ⊥
product_no_end k.End o h is = cc
product_no_end _ o h is = cc

sum_no_end : (kd o : Kind) → sum_sign kd ≡ Some o → kd ≡ k.End → ⊥
sum_no_end k.End o h is = cc
sum_no_end _ o h is = cc

product_stops : (kd : Kind) → product_goes_on kd ≡ false → (product_sign kd ≡ None) × (never kd ≡ false)
product_stops k.Star h = absurd cc
product_stops k.Slash h = absurd cc
product_stops k.Percent h = absurd cc
product_stops _ h = (refl, refl)

sum_stops : (kd : Kind) → sum_goes_on kd ≡ false → (sum_sign kd ≡ None) × (product_goes_on kd ≡ false)
sum_stops k.Plus h = absurd cc
sum_stops k.Minus h = absurd cc
sum_stops k.Star h = absurd cc
sum_stops k.Slash h = absurd cc
sum_stops k.Percent h = absurd cc
sum_stops _ h = (refl, refl)

sum_frees : (kd o : Kind) → sum_sign kd ≡ Some o → product_goes_on kd ≡ false
sum_frees k.Plus o h = refl
sum_frees k.Minus o h = refl
sum_frees _ o h = absurd cc

lawful_number_part : Lawful number_part IsNumberPart never
unfolding number_part
lawful_number_part = word_then k.Number word_value (λ n. pure (Num n)) (λ n. IsNothing (Num n)) never (λ (z : k.Number ≡ k.End). cc)
    (λ n. lawful_pure (Num n) never)

lawful_name_part : Lawful name_part IsNamePart never
unfolding name_part
lawful_name_part = word_then k.Name itself (λ t. pure (Name t)) (λ t. IsNothing (Name t)) never (λ (z : k.Name ≡ k.End). cc) (λ t. lawful_pure (Name t) never)

module _ (inside : Level → Parser IxTree) (below : Level → List Word → IxTree → Type 0) (levels : ℕ)
    (h : (level : Level) → Lawful (inside level) (below level) (goes_on level)) where
  lawful_parenthesized : Lawful (parenthesized inside levels) (IsParenthesized below levels) never
  unfolding parenthesized
  lawful_parenthesized =
      lawful_opening k.LParen _ levels (inside Sum >>= λ x. (a_word k.RParen no_value >>= λ _. pure x)) never (λ (z : k.LParen ≡ k.End). cc)
      (before_word k.RParen (inside Sum) (λ x. pure x) (below Sum) (λ x. IsNothing x) sum_goes_on never (λ (z : k.RParen ≡ k.End). cc) refl (h Sum)
      (λ x. lawful_pure x never))

  lawful_negated : Lawful (negated inside levels) (IsNegated below levels) never
  unfolding negated
  lawful_negated =
      lawful_opening k.Minus _ levels (inside Part >>= λ x. pure (tree.negation x)) never (λ (z : k.Minus ≡ k.End). cc)
      (lawful_both (inside Part) (λ x. pure (tree.negation x)) (below Part) (λ x. IsNothing (tree.negation x)) never never (h Part)
      (λ x. lawful_pure (tree.negation x) never) (λ x ws y j is e. refl))

  by_kind : (kd : Kind) → Lawful (part_by inside levels kd) (IsPartBy below levels kd) never
  by_kind k.Number = lawful_number_part
  by_kind k.Name = lawful_name_part
  by_kind k.LParen = lawful_parenthesized
  by_kind k.Minus = lawful_negated
  by_kind _ = lawful_unexpected never

  starts : (kd : Kind) (ws : List Word) (x : IxTree) (j : Input) → IsPartBy below levels kd ws x → kind (ahead ws j) ≡ kd
  starts k.Number ws x j is = both_starts k.Number word_value _ ws x j is
  starts k.Name ws x j is = both_starts k.Name itself _ ws x j is
  starts k.LParen ws x j is = both_starts k.LParen no_value _ ws x j is.1
  starts k.Minus ws x j is = both_starts k.Minus no_value _ ws x j is.1
  starts _ ws x j is = absurd is

  lawful_part : Lawful (part inside levels) (IsPart below levels) never
  unfolding part
  lawful_part = lawful_choice (part_by inside levels) (IsPartBy below levels) never by_kind starts

  lawful_factor_after : (o : Kind) (a : IxTree) → Lawful (factor_after inside levels o a) (IsFactorAfter below levels o a) never
  lawful_factor_after k.Star a = lawful_both (part inside levels) (λ b. pure (tree.product a b)) (IsPart below levels)
      (λ b. IsNothing (tree.product a b)) never never lawful_part (λ b. lawful_pure (tree.product a b) never) (λ b ws y j is e. refl)
  lawful_factor_after k.Slash a =
      word_then k.Number divisor_value (λ n. pure (tree.quotient a n)) (λ n. IsNothing (tree.quotient a n)) never (λ (z : k.Number ≡ k.End). cc)
      (λ n. lawful_pure (tree.quotient a n) never)
  lawful_factor_after k.Percent a =
      word_then k.Number divisor_value (λ n. pure (tree.remainder a n)) (λ n. IsNothing (tree.remainder a n)) never (λ (z : k.Number ≡ k.End). cc)
      (λ n. lawful_pure (tree.remainder a n) never)
  lawful_factor_after _ a = lawful_unexpected never

  lawful_factors : (a : IxTree) → Lawful (more_factors inside levels most_items a) (AreFactors below levels most_items a) product_goes_on
  unfolding products
  lawful_factors a = lawful_chain products (λ m b o. factor_after inside levels o b)
      (λ m b o. IsFactorAfter below levels o b) never product_goes_on product_no_end (λ kd o e. refl) product_stops (λ o b x fault e. limited_faults x fault e)
      (λ m b o. lawful_factor_after o b) most_items a

  lawful_product : Lawful (product inside levels) (IsProduct below levels) product_goes_on
  unfolding product
  lawful_product = lawful_both (part inside levels) (more_factors inside levels most_items) (IsPart below levels)
      (AreFactors below levels most_items) never product_goes_on lawful_part lawful_factors (λ x ws y j is e. refl)

  lawful_summand_after : (o : Kind) (a : IxTree) → Lawful (summand_after inside levels o a) (IsSummandAfter below levels o a) product_goes_on
  lawful_summand_after k.Plus a =
      lawful_both (product inside levels) (λ b. pure (tree.sum a b)) (IsProduct below levels)
      (λ b. IsNothing (tree.sum a b)) product_goes_on product_goes_on lawful_product (λ b. lawful_pure (tree.sum a b) product_goes_on)
      (frees_nothing (λ b. tree.sum a b) product_goes_on product_goes_on (λ kd e. e))
  lawful_summand_after k.Minus a =
      lawful_both (product inside levels) (λ b. pure (tree.difference a b)) (IsProduct below levels)
      (λ b. IsNothing (tree.difference a b)) product_goes_on product_goes_on lawful_product (λ b. lawful_pure (tree.difference a b) product_goes_on)
      (frees_nothing (λ b. tree.difference a b) product_goes_on product_goes_on (λ kd e. e))
  lawful_summand_after _ a = lawful_unexpected product_goes_on

  lawful_summands : (a : IxTree) → Lawful (more_summands inside levels most_items a) (AreSummands below levels most_items a) sum_goes_on
  unfolding sums
  lawful_summands a = lawful_chain sums (λ m b o. summand_after inside levels o b)
      (λ m b o. IsSummandAfter below levels o b) product_goes_on sum_goes_on sum_no_end sum_frees sum_stops (λ o b x fault e. limited_faults x fault e)
      (λ m b o. lawful_summand_after o b) most_items a

  summands_free : Frees (AreSummands below levels most_items) product_goes_on sum_goes_on
  unfolding sums
  summands_free a ws y j is e = rest_frees sums (λ m b o. summand_after inside levels o b)
      (λ m b o. IsSummandAfter below levels o b) product_goes_on sum_goes_on sum_no_end sum_frees sum_stops (λ o b x fault e. limited_faults x fault e)
      (λ m b o. lawful_summand_after o b) most_items a ws y j is e

  pub lawful_sum : Lawful (sum inside levels) (IsSum below levels) sum_goes_on
  unfolding sum
  lawful_sum = lawful_both (product inside levels) (more_summands inside levels most_items) (IsProduct below levels)
      (AreSummands below levels most_items) product_goes_on sum_goes_on lawful_product lawful_summands summands_free

  lawful_level : (level : Level) → Lawful (by_level inside levels level) (IsByLevel below levels level) (goes_on level)
  lawful_level Sum = lawful_sum
  lawful_level Part = lawful_part

lawful_inner : (levels : ℕ) (level : Level) → Lawful (inner levels level) (IsInner levels level) (goes_on level)
unfolding inner
lawful_inner zero level = lawful_unexpected (goes_on level)
lawful_inner (suc levels) level = lawful_level (inner levels) (IsInner levels) levels (lawful_inner levels) level

pub lawful_index : (levels : ℕ) → Lawful (index levels) (IsIndex levels) sum_goes_on
lawful_index levels = lawful_sum (inner levels) (IsInner levels) levels (lawful_inner levels)
