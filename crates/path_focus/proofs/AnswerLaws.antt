-- What is answered keeps the meaning where the table's result does.
use Rattle.std.proofs.Common.{◌≡◌, ℕ, ◌+◌, ◌<◌, List, length, get_or, Bool, true, false, if◌then◌else◌, nat_le, Ok, Err, sym, subst, IfOk}
use Rattle.std.specs.Prelude.{Result}
use Rattle.shape_rules.specs.Faults.{AllBefore}
use Rattle.shape_rules.proofs.ModuleLaws.{before_more}
use Rattle.term_tree.specs.Counts.{node_count}
use Rattle.term_tree.specs.Limits.{coefficients_fit, forms_short}
use Rattle.term_tree.specs.declared.term.Term.{Term}
use Rattle.path_focus.specs.Focus.{IsTrueGoal, KeepsMeaning, KeepsShape}
use Rattle.path_focus.specs.Outcome.{AllTrueGoals, IsDraft, IsOutcome, Makes, Meant, MeantKeeps, Unfit, Unlike, limited}
use Rattle.path_focus.specs.declared.place.Focus.{Focus}
use Rattle.path_focus.specs.declared.outcome.Outcome.TheVariants.{Made}
use Rattle.path_focus.specs.declared.outcome.Rewrite.{Rewrite}
use Rattle.path_focus.specs.declared.rule.Condition.{Condition}
use Rattle.path_focus.specs.declared.rule.RuleFault.{RuleFault}

chosen_is : (raw e : Term) (a b c : Bool) (x y z : RuleFault)
    → ◌≡◌ {A = Result Term RuleFault} (Ok e) (if a then (if b then (if c then Ok raw else Err x) else Err y) else Err z) → e ≡ raw
chosen_is raw e true true true x y z h = cc
chosen_is raw e true true false x y z h = absurd (cc)
chosen_is raw e true false c x y z h = absurd (cc)
chosen_is raw e false b c x y z h = absurd (cc)

-- a result within the limits is the raw one
limited_is : (raw e : Term) → Ok e ≡ limited raw → e ≡ raw
limited_is raw e h = chosen_is raw e (coefficients_fit raw) (forms_short raw) (nat_le (node_count raw) 20000) _ _ _ h

pub made_keeps : (m : Meant) (w : Rewrite) (f : Focus) (r : Result Term RuleFault) → IsOutcome m (Made w) → MeantKeeps f m → AllTrueGoals w.conditions
    → ((raw : Term) → IsDraft raw w.draft → r ≡ limited raw) → IfOk r (λ e. KeepsMeaning f e × KeepsShape f e)
made_keeps Unlike w f r h k g d = absurd h
made_keeps Unfit w f r h k g d = absurd h
made_keeps (Makes raw cs) w f (Ok e) h k g d =
    subst (λ (x : Term). KeepsMeaning f x × KeepsShape f x) (sym (limited_is raw e (d raw h.1))) (k.0 (subst AllTrueGoals h.0 g), k.1)
made_keeps (Makes raw cs) w f (Err x) h k g d = tt

pub true_before : (cs : List Condition) (i j : ℕ) (c : Condition) (b : Bool) → i ≡ j → i < length cs → c ≡ get_or cs i c → (b ≡ true → IsTrueGoal c) → b ≡ true
    → AllBefore IsTrueGoal i cs → AllBefore IsTrueGoal (i + 1) cs
true_before cs i j c b e l q h t k = before_more IsTrueGoal cs i c l q (h t) k
