-- Comparisons whose conditions are true hold.
use Rattle.std.proofs.Common.{◌≡◌, ◌≤◌, ℕ, zero, suc, List, [], ◌∷◌, length, refl, arith, true}
use Rattle.std.specs.Prelude.{ℤ, pos, negsuc, ◌*ℤ◌, ◌≤ℤ◌}
use Rattle.std.specs.Ordering.{int_eq}
use Rattle.std.proofs.lemmas.Bool.{and_from}
use Rattle.std.proofs.lemmas.Int.{ints}
use Rattle.affine_index.specs.Condition.{all_hold, at_least_zero, cmp_holds}
use Rattle.affine_index.specs.Sum.{scaled}
use Rattle.affine_index.specs.Value.{items_value}
use Rattle.affine_index.specs.declared.cond.Cmp.{Cmp}
use Rattle.affine_index.specs.declared.cond.Cmp.TheVariants.{Ge, Eq}
use Rattle.affine_index.specs.declared.form.Items.{Items}
use Rattle.affine_index.proofs.Values.{value-scaled}
use Rattle.fact_list.specs.Facts.{moves_fit}
use Rattle.fact_list.specs.Truth.{FactsHold}
use Rattle.fact_list.specs.declared.facts.Facts.{Facts}
use Rattle.path_focus.specs.Making.{owed}
use Rattle.path_focus.specs.Outcome.{AllListed, AllTrueGoals}
use Rattle.path_focus.proofs.FocusMeaning.{goal_true}
use Rattle.rule_parts.specs.Conds.{goals_of}

pub at_least : (z : ℤ) → pos 0 ≤ℤ z → at_least_zero z ≡ true
at_least (pos n) h = refl
at_least (negsuc n) h = absurd (omega (arith, ints, h))

-- what is neither below nor above 0
neither : (z : ℤ) → pos 0 ≤ℤ z → pos 0 ≤ℤ (negsuc 0 *ℤ z) → int_eq z (pos 0) ≡ true
neither (pos zero) h k = refl
neither (pos (suc n)) h k = absurd (omega (arith, ints, k))
neither (negsuc n) h k = absurd (omega (arith, ints, h))

pub goals_hold : (f : Facts) (cs : List Cmp) → AllTrueGoals (goals_of f cs) → (s r : List ℕ) → FactsHold f s r → all_hold s r cs ≡ true
goals_hold f [] g s r h = refl
goals_hold f (Ge x ∷ cs) g s r h =
    and_from (cmp_holds s r (Ge x)) (all_hold s r cs) (at_least (items_value s r x) (goal_true f x (g zero (owed f x) (omega arith)) s r h))
    (goals_hold f cs (λ k d l. g (suc k) d (omega (arith, l))) s r h)
goals_hold f (Eq x ∷ cs) g s r h =
    let low = goal_true f x (g zero (owed f x) (omega arith)) s r h in
    let high = goal_true f (scaled (negsuc 0) x) (g (suc zero) (owed f x) (omega arith)) s r h in
    and_from (cmp_holds s r (Eq x)) (all_hold s r cs) (neither (items_value s r x) low (opposite_value s r x high))
    (goals_hold f cs (λ k d l. g (suc (suc k)) d (omega (arith, l))) s r h)
  where
    opposite_value : (s r : List ℕ) (x : Items) → pos 0 ≤ℤ items_value s r (scaled (negsuc 0) x) → pos 0 ≤ℤ (negsuc 0 *ℤ items_value s r x)
    opposite_value s r x k = let e = value-scaled s r (negsuc 0) x in omega (arith, ints, e, k)

-- the facts of conditions of one place may be listed where those of the place may
pub goals_listed : (f : Facts)
    → (length f.sizes ≤ 2147483647) × (length f.path ≤ 2147483647) × (moves_fit f.path ≡ true) → (cs : List Cmp) → AllListed (goals_of f cs)
goals_listed f l [] k d h = absurd (omega (arith, h))
goals_listed f l (Ge x ∷ cs) zero d h = l
goals_listed f l (Ge x ∷ cs) (suc k) d h = goals_listed f l cs k d (omega (arith, h))
goals_listed f l (Eq x ∷ cs) zero d h = l
goals_listed f l (Eq x ∷ cs) (suc zero) d h = l
goals_listed f l (Eq x ∷ cs) (suc (suc k)) d h = goals_listed f l cs k d (omega (arith, h))
