-- What given lines show is true.
use Rattle.std.proofs.Common.{◌≡◌, ℕ, zero, suc, List, [], ◌∷◌, refl, ap, ◌∙◌, subst, Bool, true, false, ◌&&◌, not, Option, Some, None, arith}
use Rattle.std.specs.Prelude.{ℤ, pos, negsuc, ◌+ℤ◌, ◌*ℤ◌, ◌≤ℤ◌, slice_get}
use Rattle.std.specs.Option.{option_map}
use Rattle.std.proofs.lemmas.Bool.{and_parts}
use Rattle.std.proofs.lemmas.Int.{ints}
use Rattle.std.proofs.Math.IntN.{*ℤ-zero}
use Rattle.affine_index.specs.Condition.{at_least_zero, cmp_holds}
use Rattle.affine_index.specs.Form.{literal_form}
use Rattle.affine_index.specs.Sum.{scaled}
use Rattle.affine_index.specs.Value.{items_value, terms_value}
use Rattle.affine_index.proofs.SumValue.{int_eq-zero, items_value-is, sum_of-value}
use Rattle.affine_index.proofs.Values.{each_value, value-add_up, value-difference, value-literal, value-scaled}
use Rattle.affine_index.specs.declared.cond.Cmp.{Cmp}
use Rattle.affine_index.specs.declared.cond.Cmp.TheVariants.{Ge, Eq}
use Rattle.affine_index.specs.declared.form.Atom.{Atom}
use Rattle.affine_index.specs.declared.form.Item.{Item}
use Rattle.affine_index.specs.declared.form.Items.{Items}
use Rattle.fact_list.proofs.FactsTrue.{at_least_zero-from, at_least_zero-is}
use Rattle.fact_list.proofs.NotNegative.{times-not_negative}
use Rattle.fact_list.specs.Truth.{AllTrue}
use Rattle.fact_list.specs.declared.role.Fact.{Fact}
use Rattle.linear_cert.specs.Shown.{first_total, form_or_zero, is_negative_constant, line_sum, lines_good, lines_show, may_take_some, names_fact, negated}
use Rattle.linear_cert.specs.Shown.{no_terms, numbered, taken}
use Rattle.linear_cert.specs.declared.lines.Line.{Line}

module _ (s r : List ℕ) (facts : List Fact) (goal : Items) (hold : AllTrue s r facts) where
  -- a comparison, where there is one, holds
  abbrev SomeHolds : Option Cmp → Type 0
  SomeHolds None = Unit {0}
  SomeHolds (Some c) = cmp_holds s r c ≡ true

  listed : (xs : List Fact) (n : ℕ) → AllTrue s r xs → SomeHolds (option_map (λ x. x.cmp) (slice_get xs n))
  listed [] n h = tt
  listed (x ∷ xs) zero h = h.0
  listed (x ∷ xs) (suc n) h = listed xs n h.1

  taken-not_negative : (m : ℤ) (o : Option Cmp) → SomeHolds o → may_take_some m o ≡ true → pos 0 ≤ℤ (m *ℤ items_value s r (form_or_zero o))
  taken-not_negative m None h u = absurd (cc)
  taken-not_negative m (Some (Ge x)) h u = times-not_negative m (items_value s r x) (at_least_zero-is m u) (at_least_zero-is (items_value s r x) h)
  taken-not_negative m (Some (Eq x)) h u =
      let e = ap (λ (z : ℤ). m *ℤ z) (int_eq-zero (items_value s r x) h) ∙ *ℤ-zero m in omega (arith, ints)

  module _ (opposite : pos 0 ≤ℤ items_value s r (negated goal)) where
    numbered-holds : (n : ℕ) → SomeHolds (numbered facts goal n)
    numbered-holds zero = at_least_zero-from (items_value s r (negated goal)) opposite
    numbered-holds (suc n) = listed facts n hold

    lines-not_negative : (ls : List Line) → lines_good facts goal ls ≡ true → pos 0 ≤ℤ each_value s r (taken facts goal ls)
    lines-not_negative [] u = omega (arith, ints)
    lines-not_negative (l ∷ ls) u =
        let a = and_parts (may_take_some l.multiplier (numbered facts goal l.fact)) (not (names_fact l.fact ls) && lines_good facts goal ls) u in
        let b = and_parts (not (names_fact l.fact ls)) (lines_good facts goal ls) a.1 in
        let first = taken-not_negative l.multiplier (numbered facts goal l.fact) (numbered-holds l.fact) a.0 in
        let rest = lines-not_negative ls b.1 in
        omega (arith, ints)

    first-not_negative : (b : Bool) → pos 0 ≤ℤ items_value s r (first_total goal b)
    first-not_negative true = let none = value-literal s r (pos 0) in omega (arith, ints)
    first-not_negative false =
        let none = value-literal s r (pos 0) in
        let more = sum_of-value s r (literal_form (pos 0)) (scaled (pos 1) (negated goal)) in
        let times = value-scaled s r (pos 1) (negated goal) in
        let first = times-not_negative (pos 1) (items_value s r (negated goal)) (omega (arith, ints)) opposite in
        omega (arith, ints)

    negative : (i : Items) → is_negative_constant i ≡ true → pos 0 ≤ℤ items_value s r i → ⊥
    negative i u h = by i.terms i.constant (and_parts (no_terms i.terms) (not (at_least_zero i.constant)) u).0
        (and_parts (no_terms i.terms) (not (at_least_zero i.constant)) u).1 (subst (λ (z : ℤ). pos 0 ≤ℤ z) (items_value-is s r i) h)
      where
        by : (ts : List (Item Atom)) (c : ℤ) → no_terms ts ≡ true → not (at_least_zero c) ≡ true → pos 0 ≤ℤ (terms_value s r ts +ℤ c) → ⊥
        by [] (pos n) t u h = cc
        by [] (negsuc n) t u h = omega (arith, ints)
        by (t ∷ ts) c e u h = cc

    contradiction : (ls : List Line) → lines_show facts goal ls ≡ true → ⊥
    contradiction ls u =
        let parts = and_parts (lines_good facts goal ls) (is_negative_constant (line_sum facts goal ls)) u in
        let whole = value-add_up s r (taken facts goal ls) (first_total goal (names_fact 0 ls)) in
        let begun = first-not_negative (names_fact 0 ls) in
        let some = lines-not_negative ls parts.0 in
        negative (line_sum facts goal ls) parts.1 (omega (arith, ints))

  -- either the goal holds, or its negation is a fact, and the sum is both negative and not
  pub lines-true : (ls : List Line) → lines_show facts goal ls ≡ true → pos 0 ≤ℤ items_value s r goal
  lines-true ls u = by (items_value s r goal) refl
    where
      by : (z : ℤ) → items_value s r goal ≡ z → pos 0 ≤ℤ items_value s r goal
      by (pos n) e = omega (arith, ints)
      by (negsuc n) e =
          let less = value-difference s r (literal_form (negsuc 0)) goal in
          let one = value-literal s r (negsuc 0) in
          absurd (contradiction (omega (arith, ints)) ls u)
