-- What the call of a rule takes of what the rule makes.
use Rattle.std.proofs.Common.{◌≡◌, ℕ, List, [], ◌∷◌, length, sym, subst, arith, Bool, true, false, not}
use Rattle.std.specs.Prelude.{Option, Some, None}
use Rattle.affine_index.specs.Limited.{items_scoped}
use Rattle.affine_index.specs.Normal.{is_normal, is_ordered}
use Rattle.affine_index.specs.declared.cond.Cond.{Cond}
use Rattle.affine_index.specs.declared.form.Items.{Items}
use Rattle.affine_index.proofs.ArithmeticLaws.{normal-ordered}
use Rattle.binders.specs.Uses.{any_cmp, uses}
use Rattle.fact_list.specs.Facts.{binders}
use Rattle.term_tree.specs.Limits.{every_form}
use Rattle.shape_rules.specs.Scopes.{given}
use Rattle.term_tree.specs.Scope.{cond_scoped}
use Rattle.term_tree.specs.Shape.{shape_of}
use Rattle.term_tree.specs.Syntax.{add, gen, guard, index, mul, sub, sum}
use Rattle.term_tree.specs.declared.term.Term.{Term}
use Rattle.term_tree.proofs.FormLaws.{every_form-weaker}
use Rattle.path_focus.specs.Focus.{IsProper}
use Rattle.path_focus.specs.Outcome.{AllListed, IsOutcome, MadeListed, Makes, Meant, MeantKeeps, Unfit, Unlike, without_arguments}
use Rattle.path_focus.specs.declared.place.Focus.{Focus}
use Rattle.path_focus.specs.declared.outcome.Outcome.{Outcome}
use Rattle.path_focus.specs.declared.outcome.Outcome.TheVariants.{NoPattern, WrongArgument, Made}
use Rattle.path_focus.specs.declared.rule.Arg.{Arg}
use Rattle.path_focus.proofs.FocusMeaning.{facts_listed}
use Rattle.rule_parts.proofs.GoalLaws.{goals_listed}
use Rattle.rule_parts.specs.Patterns.{first_extent, on_either, on_form, on_gen, on_guard, on_index, on_mul, on_sum, provided}
use Rattle.rules_guard.specs.Arguments.{bound_of, cond_of, fitting, number_of, with_cond, with_form, with_number}
use Rattle.rules_guard.specs.Rules.{rule_of}
use Rattle.rules_guard.specs.Table.{is_part}
use Rattle.rules_guard.specs.declared.rules.GuardRule.{GuardRule}
use Rattle.rules_guard.specs.declared.rules.GuardRule.TheVariants.{GuardIntro, GuardElim, GuardMerge, GuardPart, GuardGen, GenGuard, GuardSum, GuardAdd}
use Rattle.rules_guard.specs.declared.rules.GuardRule.TheVariants.{GuardMul, GuardIndex, GuardCases, AccessGuard, SumNarrow, DivZero}
use Rattle.rules_guard.proofs.AccessLaws.{access_guard_keeps}
use Rattle.rules_guard.proofs.CaseLaws.{guard_cases_keeps}
use Rattle.rules_guard.proofs.InwardLaws.{guard_gen_keeps, guard_index_keeps, guard_sum_keeps}
use Rattle.rules_guard.proofs.NestedLaws.{guard_merge_keeps, guard_part_keeps}
use Rattle.rules_guard.proofs.OutwardLaws.{gen_guard_keeps}
use Rattle.rules_guard.proofs.ShownLaws.{guard_elim_keeps, guard_intro_keeps}
use Rattle.rules_guard.proofs.WordLaws.{guard_add_keeps, guard_mul_keeps}
use Rattle.rules_narrow.proofs.ListedLaws.{MeantListed, narrow_listed}
use Rattle.rules_narrow.proofs.NarrowLaws.{sum_narrow_keeps}
use Rattle.rules_narrow.proofs.QuotientLaws.{div_zero_keeps, zero_listed}

at_index : (t : Term) (f : Term → Items → Meant) → ((e : Term) (x : Items) → MeantListed (f e x)) → MeantListed (on_index t f)
at_index (index e x) f h = h e x
at_index _ f h = tt

at_gen : (t : Term) (f : Items → Term → Meant) → ((n : Items) (e : Term) → MeantListed (f n e)) → MeantListed (on_gen t f)
at_gen (gen n e) f h = h n e
at_gen _ f h = tt

at_sum : (t : Term) (f : Items → Term → Meant) → ((n : Items) (e : Term) → MeantListed (f n e)) → MeantListed (on_sum t f)
at_sum (sum n e) f h = h n e
at_sum _ f h = tt

at_guard : (t : Term) (f : Cond → Term → Meant) → ((c : Cond) (e : Term) → MeantListed (f c e)) → MeantListed (on_guard t f)
at_guard (guard c e) f h = h c e
at_guard _ f h = tt

at_mul : (t : Term) (f : Term → Term → Meant) → ((a b : Term) → MeantListed (f a b)) → MeantListed (on_mul t f)
at_mul (mul a b) f h = h a b
at_mul _ f h = tt

at_either : (t : Term) (f g : Term → Term → Meant) → ((a b : Term) → MeantListed (f a b)) → ((a b : Term) → MeantListed (g a b)) → MeantListed (on_either t f g)
at_either (add a b) f g h k = h a b
at_either (sub a b) f g h k = k a b
at_either _ f g h k = tt

at_number : (o : Option ℕ) (f : ℕ → Meant) → ((j : ℕ) → MeantListed (f j)) → MeantListed (with_number o f)
at_number (Some j) f h = h j
at_number None f h = tt

at_cond : (o : Option Cond) (f : Cond → Meant) → ((c : Cond) → MeantListed (f c)) → MeantListed (with_cond o f)
at_cond (Some c) f h = h c
at_cond None f h = tt

at_form : (o : Option Items) (f : Items → Meant) → ((n : Items) → MeantListed (f n)) → MeantListed (on_form o f)
at_form (Some n) f h = h n
at_form None f h = tt

given_form : (o : Option Items) (f : Items → Meant) → ((n : Items) → MeantListed (f n)) → MeantListed (with_form o f)
given_form (Some n) f h = h n
given_form None f h = tt

if_provided : (b : Bool) (m : Meant) → MeantListed m → MeantListed (provided b m)
if_provided true m h = h
if_provided false m h = tt

if_fitting : (b : Bool) (m : Meant) → MeantListed m → MeantListed (fitting b m)
if_fitting true m h = h
if_fitting false m h = tt

with_none : (as' : List Arg) (m : Meant) → MeantListed m → MeantListed (without_arguments as' m)
with_none [] m h = h
with_none (a ∷ as') m h = tt

no_conditions : AllListed []
no_conditions k d h = absurd (omega (arith, h))

listed : (f : Focus) → IsProper f → (rule : GuardRule) (as' : List Arg) → MeantListed (rule_of f rule as')
listed f p GuardIntro as' = at_cond (cond_of as') _ (λ c. if_fitting (cond_scoped (length f.facts.sizes) (binders f.facts.path) c) _ (goals_listed f.facts
    (facts_listed f p) c.all))
listed f p GuardElim as' = at_guard f.term _ (λ c e. with_none as' _ (goals_listed f.facts (facts_listed f p) c.all))
listed f p GuardMerge as' = at_guard f.term _ (λ c e. at_guard e _ (λ d b. with_none as' _ no_conditions))
listed f p GuardPart as' = at_guard f.term _ (λ c e. at_number (number_of as') _ (λ j. if_fitting (is_part j c) _ no_conditions))
listed f p GuardGen as' = at_guard f.term _ (λ c e. at_gen e _ (λ n b. with_none as' _ no_conditions))
listed f p GenGuard as' = at_gen f.term _ (λ n e. at_guard e _ (λ c b. if_provided (not (any_cmp (uses 0) c.all)) _ (with_none as' _ no_conditions)))
listed f p GuardSum as' = at_guard f.term _ (λ c e. at_sum e _ (λ n b. with_none as' _ no_conditions))
listed f p GuardAdd as' = at_guard f.term _ (λ c e. at_either e _ _ (λ a b. with_none as' _ no_conditions) (λ a b. with_none as' _ no_conditions))
listed f p GuardMul as' = at_guard f.term _ (λ c e. at_mul e _ (λ a b. with_none as' _ no_conditions))
listed f p GuardCases as' = given_form (bound_of as') _ (λ g. if_fitting (items_scoped (length f.facts.sizes) (binders f.facts.path) g) _ no_conditions)
listed f p AccessGuard as' = at_index f.term _ (λ e x. at_form (first_extent (shape_of e (given f.shapes))) _ (λ n. with_none as' _ no_conditions))
listed f p GuardIndex as' = at_index f.term _ (λ e x. at_guard e _ (λ c b. with_none as' _ no_conditions))
listed f p SumNarrow as' = narrow_listed f p as'
listed f p DivZero as' = zero_listed f p as'

made_listed : (m : Meant) (o : Outcome) → MeantListed m → IsOutcome m o → MadeListed o
made_listed m NoPattern l h = tt
made_listed m WrongArgument l h = tt
made_listed Unlike (Made w) l h = absurd h
made_listed Unfit (Made w) l h = absurd h
made_listed (Makes raw cs) (Made w) l h = subst AllListed (sym h.0) l

pub rule_listed : (f : Focus) (rule : GuardRule) (as' : List Arg) (o : Outcome) → IsProper f → IsOutcome (rule_of f rule as') o → MadeListed o
rule_listed f rule as' o p h = made_listed (rule_of f rule as') o (listed f p rule as') h

kept : (f : Focus) (rule : GuardRule) (as' : List Arg) → IsProper f → every_form is_ordered f.term ≡ true → MeantKeeps f (rule_of f rule as')
kept f GuardIntro as' p o = guard_intro_keeps f p o as'
kept f GuardElim as' p o = guard_elim_keeps f p o as'
kept f GuardMerge as' p o = guard_merge_keeps f p o as'
kept f GuardPart as' p o = guard_part_keeps f p o as'
kept f GuardGen as' p o = guard_gen_keeps f p o as'
kept f GenGuard as' p o = gen_guard_keeps f p o as'
kept f GuardSum as' p o = guard_sum_keeps f p o as'
kept f GuardAdd as' p o = guard_add_keeps f p o as'
kept f GuardMul as' p o = guard_mul_keeps f p o as'
kept f GuardIndex as' p o = guard_index_keeps f p o as'
kept f GuardCases as' p o = guard_cases_keeps f p o as'
kept f AccessGuard as' p o = access_guard_keeps f p o as'
kept f SumNarrow as' p o = sum_narrow_keeps f p o as'
kept f DivZero as' p o = div_zero_keeps f p o as'

pub rule_keeps : (f : Focus) (rule : GuardRule) (as' : List Arg) → IsProper f → every_form is_normal f.term ≡ true → MeantKeeps f (rule_of f rule as')
rule_keeps f rule as' p o = kept f rule as' p (every_form-weaker is_normal is_ordered normal-ordered f.term o)
