-- What the call of a rule takes of what the rule makes.
use Rattle.std.proofs.Common.{◌≡◌, ℕ, List, [], ◌∷◌, sym, subst, arith, Bool, true, false, not}
use Rattle.std.specs.Prelude.{Option, Some, None}
use Rattle.affine_index.specs.Normal.{is_normal, is_ordered}
use Rattle.affine_index.specs.declared.cond.Cond.{Cond}
use Rattle.affine_index.specs.declared.form.Items.{Items}
use Rattle.affine_index.proofs.ArithmeticLaws.{normal-ordered}
use Rattle.binders.specs.Uses.{uses_index, uses_tensor}
use Rattle.term_tree.specs.Limits.{every_form}
use Rattle.term_tree.specs.Syntax.{gen, guard, index, let_in, sum}
use Rattle.term_tree.specs.declared.term.Term.{Term}
use Rattle.term_tree.proofs.FormLaws.{every_form-weaker}
use Rattle.path_focus.specs.Focus.{IsProper}
use Rattle.path_focus.specs.Frames.{Frame, Opened, opened}
use Rattle.path_focus.specs.Outcome.{AllListed, IsOutcome, MadeListed, Makes, Meant, MeantKeeps, Unfit, Unlike, without_arguments}
use Rattle.path_focus.specs.declared.place.Focus.{Focus}
use Rattle.path_focus.specs.declared.outcome.Outcome.{Outcome}
use Rattle.path_focus.specs.declared.outcome.Outcome.TheVariants.{NoPattern, WrongArgument, Made}
use Rattle.path_focus.specs.declared.rule.Arg.{Arg}
use Rattle.rule_parts.specs.Patterns.{on_gen, on_guard, on_index, on_sum, provided}
use Rattle.rules_let.specs.Arguments.{fitting, is_definition, number_of, variable_of, with_number}
use Rattle.rules_let.specs.Operators.{is_operator, with_let, with_opened}
use Rattle.rules_let.specs.Rules.{rule_of}
use Rattle.rules_let.specs.Table.{on_let}
use Rattle.rules_let.specs.declared.rules.LetRule.{LetRule}
use Rattle.rules_let.specs.declared.rules.LetRule.TheVariants.{LetIntro, LetInline, LetUse, LetOutOfGen, LetLiftGen, LetOutOfSum, LetIndex, LetGuard, LetLet}
use Rattle.rules_let.specs.declared.rules.LetRule.TheVariants.{LetDrop, LetOp}
use Rattle.rules_let.proofs.InliningLaws.{let_drop_keeps, let_inline_keeps}
use Rattle.rules_let.proofs.LiftingLaws.{let_lift_gen_keeps, let_out_of_gen_keeps, let_out_of_sum_keeps}
use Rattle.rules_let.proofs.MovingLaws.{let_guard_keeps, let_index_keeps}
use Rattle.rules_let.proofs.NestingLaws.{let_intro_keeps, let_let_keeps}
use Rattle.rules_let.proofs.OperatorLaws.{let_op_keeps}
use Rattle.rules_let.proofs.UsingLaws.{let_use_keeps}

-- it has no conditions, so the facts of none need be listed
abbrev MeantListed : Meant → Type 0
MeantListed Unlike = Unit {0}
MeantListed Unfit = Unit {0}
MeantListed (Makes raw cs) = AllListed cs

at_index : (t : Term) (f : Term → Items → Meant) → ((e : Term) (x : Items) → MeantListed (f e x)) → MeantListed (on_index t f)
at_index (index e x) f h = h e x
at_index _ f h = tt

at_gen : (t : Term) (f : Items → Term → Meant) → ((n : Items) (e : Term) → MeantListed (f n e)) → MeantListed (on_gen t f)
at_gen (gen n e) f h = h n e
at_gen _ f h = tt

at_sum : (t : Term) (f : Items → Term → Meant) → ((n : Items) (e : Term) → MeantListed (f n e)) → MeantListed (on_sum t f)
at_sum (sum n e) f h = h n e
at_sum _ f h = tt

at_guard : (t : Term) (f : Cond → Term → Meant) → ((c : Cond) (e : Term) → MeantListed (f c e)) → MeantListed (on_guard t f)
at_guard (guard c e) f h = h c e
at_guard _ f h = tt

at_let : (t : Term) (f : Term → Term → Meant) → ((a b : Term) → MeantListed (f a b)) → MeantListed (on_let t f)
at_let (let_in a b) f h = h a b
at_let _ f h = tt

let_given : (t : Term) (f : Term → Term → Meant) → ((a b : Term) → MeantListed (f a b)) → MeantListed (with_let t f)
let_given (let_in a b) f h = h a b
let_given _ f h = tt

number_given : (o : Option ℕ) (f : ℕ → Meant) → ((j : ℕ) → MeantListed (f j)) → MeantListed (with_number o f)
number_given (Some j) f h = h j
number_given None f h = tt

child_given : (o : Option Opened) (f : Frame → Term → Meant) → ((g : Frame) (e : Term) → MeantListed (f g e)) → MeantListed (with_opened o f)
child_given (Some c) f h = h c.frame c.child
child_given None f h = tt

if_provided : (b : Bool) (m : Meant) → MeantListed m → MeantListed (provided b m)
if_provided true m h = h
if_provided false m h = tt

if_fitting : (b : Bool) (m : Meant) → MeantListed m → MeantListed (fitting b m)
if_fitting true m h = h
if_fitting false m h = tt

with_none : (as' : List Arg) (m : Meant) → MeantListed m → MeantListed (without_arguments as' m)
with_none [] m h = h
with_none (a ∷ as') m h = tt

no_conditions : AllListed []
no_conditions k d h = absurd (omega (arith, h))

listed : (f : Focus) (rule : LetRule) (as' : List Arg) → MeantListed (rule_of f rule as')
listed f LetIntro as' = with_none as' _ no_conditions
listed f LetInline as' = at_let f.term _ (λ a b. with_none as' _ no_conditions)
listed f LetUse as' = number_given (variable_of as') _ (λ q. if_fitting (is_definition q f.term f.bound) _ no_conditions)
listed f LetOutOfGen as' = at_gen f.term _ (λ n e. at_let e _ (λ a b. with_none as' _ no_conditions))
listed f LetLiftGen as' = at_gen f.term _ (λ n e. at_let e _ (λ a b. if_provided (not (uses_index a 0)) _ (with_none as' _ no_conditions)))
listed f LetOutOfSum as' = at_sum f.term _ (λ n e. at_let e _ (λ a b. if_provided (not (uses_index a 0)) _ (with_none as' _ no_conditions)))
listed f LetIndex as' = at_index f.term _ (λ e x. at_let e _ (λ a b. with_none as' _ no_conditions))
listed f LetGuard as' = at_guard f.term _ (λ c e. at_let e _ (λ a b. with_none as' _ no_conditions))
listed f LetLet as' = at_let f.term _ (λ e c. at_let e _ (λ a b. with_none as' _ no_conditions))
listed f LetDrop as' = at_let f.term _ (λ a b. if_provided (not (uses_tensor b 0)) _ (with_none as' _ no_conditions))
listed f LetOp as' =
    if_provided (is_operator f.term) _
    (number_given (number_of as') _ (λ j. child_given (opened f.term j) _ (λ g e. let_given e _ (λ a b. no_conditions))))

made_listed : (m : Meant) (o : Outcome) → MeantListed m → IsOutcome m o → MadeListed o
made_listed m NoPattern l h = tt
made_listed m WrongArgument l h = tt
made_listed Unlike (Made w) l h = absurd h
made_listed Unfit (Made w) l h = absurd h
made_listed (Makes raw cs) (Made w) l h = subst AllListed (sym h.0) l

pub rule_listed : (f : Focus) (rule : LetRule) (as' : List Arg) (o : Outcome) → IsOutcome (rule_of f rule as') o → MadeListed o
rule_listed f rule as' o h = made_listed (rule_of f rule as') o (listed f rule as') h

kept : (f : Focus) (rule : LetRule) (as' : List Arg) → IsProper f → every_form is_ordered f.term ≡ true → MeantKeeps f (rule_of f rule as')
kept f LetIntro as' p o = let_intro_keeps f p o as'
kept f LetInline as' p o = let_inline_keeps f p o as'
kept f LetUse as' p o = let_use_keeps f p o as'
kept f LetOutOfGen as' p o = let_out_of_gen_keeps f p o as'
kept f LetLiftGen as' p o = let_lift_gen_keeps f p o as'
kept f LetOutOfSum as' p o = let_out_of_sum_keeps f p o as'
kept f LetIndex as' p o = let_index_keeps f p o as'
kept f LetGuard as' p o = let_guard_keeps f p o as'
kept f LetLet as' p o = let_let_keeps f p o as'
kept f LetDrop as' p o = let_drop_keeps f p o as'
kept f LetOp as' p o = let_op_keeps f p o as'

pub rule_keeps : (f : Focus) (rule : LetRule) (as' : List Arg) → IsProper f → every_form is_normal f.term ≡ true → MeantKeeps f (rule_of f rule as')
rule_keeps f rule as' p o = kept f rule as' p (every_form-weaker is_normal is_ordered normal-ordered f.term o)
