-- The rules of guards make no index a word.
use Rattle.std.proofs.Common.{ℕ, List, Bool, true, false, length, not}
use Rattle.std.specs.Prelude.{Option, Some, None}
use Rattle.affine_index.specs.Limited.{items_scoped}
use Rattle.affine_index.specs.declared.cond.Cond.{Cond}
use Rattle.affine_index.specs.declared.form.Items.{Items}
use Rattle.binders.specs.Uses.{any_cmp, uses}
use Rattle.fact_list.specs.Facts.{binders}
use Rattle.path_focus.specs.Outcome.{Meant}
use Rattle.path_focus.specs.declared.place.Focus.{Focus}
use Rattle.path_focus.specs.declared.rule.Arg.{Arg}
use Rattle.rule_parts.specs.Patterns.{first_extent}
use Rattle.rules_guard.specs.Arguments.{bound_of, cond_of, fitting, number_of, with_cond, with_form, with_number}
use Rattle.rules_guard.specs.Rules.{rule_of}
use Rattle.rules_guard.specs.Table.{is_part}
use Rattle.rules_guard.specs.declared.rules.GuardRule.{GuardRule}
use Rattle.rules_guard.specs.declared.rules.GuardRule.TheVariants.{GuardIntro, GuardElim, GuardMerge, GuardPart, GuardGen, GenGuard, GuardSum, GuardAdd}
use Rattle.rules_guard.specs.declared.rules.GuardRule.TheVariants.{GuardMul, GuardIndex, GuardCases, AccessGuard, SumNarrow, DivZero}
use Rattle.shape_rules.specs.Scopes.{given}
use Rattle.term_tree.specs.Scope.{cond_scoped}
use Rattle.term_tree.specs.Shape.{shape_of}
use Rattle.atl_printer.specs.Printable.{HasNoWordOf}
use Rattle.printable_versions.proofs.NarrowWords.{div_zero_words, sum_narrow_words}
use Rattle.printable_versions.proofs.Words.{MakesNoWord, at_either, at_form, at_gen, at_guard, at_index, at_mul, at_sum, if_provided, with_none}

cond_given : (o : Option Cond) (f : Cond → Meant) → ((c : Cond) → MakesNoWord (f c)) → MakesNoWord (with_cond o f)
cond_given (Some c) f h = h c
cond_given None f h = tt

number_given : (o : Option ℕ) (f : ℕ → Meant) → ((j : ℕ) → MakesNoWord (f j)) → MakesNoWord (with_number o f)
number_given (Some j) f h = h j
number_given None f h = tt

form_given : (o : Option Items) (f : Items → Meant) → ((x : Items) → MakesNoWord (f x)) → MakesNoWord (with_form o f)
form_given (Some x) f h = h x
form_given None f h = tt

if_fitting : (b : Bool) (m : Meant) → MakesNoWord m → MakesNoWord (fitting b m)
if_fitting true m h = h
if_fitting false m h = tt

pub guard_words : (f : Focus) (rule : GuardRule) (as' : List Arg) → HasNoWordOf f.term → MakesNoWord (rule_of f rule as')
guard_words f GuardIntro as' p = cond_given (cond_of as') _ (λ c. if_fitting (cond_scoped (length f.facts.sizes) (binders f.facts.path) c) _ p)
guard_words f GuardElim as' p = at_guard f.term _ p (λ c e h. with_none as' _ h)
guard_words f GuardMerge as' p = at_guard f.term _ p (λ c e h. at_guard e _ h (λ d b k. with_none as' _ k))
guard_words f GuardPart as' p = at_guard f.term _ p (λ c e h. number_given (number_of as') _ (λ j. if_fitting (is_part j c) _ h))
guard_words f GuardGen as' p = at_guard f.term _ p (λ c e h. at_gen e _ h (λ n b k. with_none as' _ k))
guard_words f GenGuard as' p =
    at_gen f.term _ p (λ n e h. at_guard e _ h (λ c b k. if_provided (not (any_cmp (uses 0) c.all)) _ (with_none as' _ k)))
guard_words f GuardSum as' p = at_guard f.term _ p (λ c e h. at_sum e _ h (λ n b k. with_none as' _ k))
guard_words f GuardAdd as' p =
    at_guard f.term _ p (λ c e h. at_either e _ _ h (λ a b k l. with_none as' _ (k, l)) (λ a b k l. with_none as' _ (k, l)))
guard_words f GuardMul as' p = at_guard f.term _ p (λ c e h. at_mul e _ h (λ a b k l. with_none as' _ (k, l)))
guard_words f GuardIndex as' p = at_index f.term _ p (λ e x h. at_guard e _ h (λ c b k. with_none as' _ k))
guard_words f GuardCases as' p =
    form_given (bound_of as') _ (λ g. if_fitting (items_scoped (length f.facts.sizes) (binders f.facts.path) g) _ (p, p))
guard_words f AccessGuard as' p =
    at_index f.term _ p (λ e x h. at_form (first_extent (shape_of e (given f.shapes))) _ (λ n. with_none as' _ h))
guard_words f SumNarrow as' p = sum_narrow_words f as' p
guard_words f DivZero as' p = div_zero_words f as' p
