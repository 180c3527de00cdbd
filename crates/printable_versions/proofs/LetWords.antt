-- The rules of lets make no index a word.
use Rattle.std.proofs.Common.{ℕ, List, Bool, true, false, not}
use Rattle.std.specs.Prelude.{IfSome, Option, Some, None}
use Rattle.binders.specs.Uses.{uses_index, uses_tensor}
use Rattle.path_focus.specs.Frames.{Frame, OfIndex, OfGen, OfSum, OfGuard, OfDefinition, OfBody, AddLeft, AddRight, SubLeft, SubRight, MulLeft, MulRight}
use Rattle.path_focus.specs.Frames.{ConcatLeft, ConcatRight, OfFlatten, OfSplit, OfTranspose, OfTruncL, OfTruncR, OfPadL, OfPadR, Opened, opened}
use Rattle.path_focus.specs.Outcome.{Meant}
use Rattle.path_focus.specs.declared.place.Focus.{Focus}
use Rattle.path_focus.specs.declared.rule.Arg.{Arg}
use Rattle.rules_let.specs.Arguments.{fitting, is_definition, number_of, variable_of, with_number}
use Rattle.rules_let.specs.Operators.{is_operator, under_one_more, with_let, with_opened}
use Rattle.rules_let.specs.Rules.{rule_of}
use Rattle.rules_let.specs.Table.{on_let, row_of_variable}
use Rattle.rules_let.specs.declared.rules.LetRule.{LetRule}
use Rattle.rules_let.specs.declared.rules.LetRule.TheVariants.{LetIntro, LetInline, LetUse, LetOutOfGen, LetLiftGen, LetOutOfSum, LetIndex, LetGuard, LetLet}
use Rattle.rules_let.specs.declared.rules.LetRule.TheVariants.{LetDrop, LetOp}
use Rattle.term_tree.specs.Syntax.{let_in}
use Rattle.term_tree.specs.declared.term.Term.{Term, TVar}
use Rattle.atl_printer.specs.Printable.{HasNoWordOf}
use Rattle.printable_versions.proofs.Words.{HasNoWordBeside, MakesNoWord, OfBoth, at_child, at_gen, at_guard, at_index, at_sum, filled_words, if_provided}
use Rattle.printable_versions.proofs.Words.{lowered_words, put_tensor_words, under_let_words, with_none}

at_let : (t : Term) (f : Term → Term → Meant) → HasNoWordOf t → OfBoth f → MakesNoWord (on_let t f)
at_let (let_in a b) f p h = h a b p.0 p.1
at_let _ f p h = tt

let_given : (t : Term) (f : Term → Term → Meant) → HasNoWordOf t → OfBoth f → MakesNoWord (with_let t f)
let_given (let_in a b) f p h = h a b p.0 p.1
let_given _ f p h = tt

number_given : (o : Option ℕ) (f : ℕ → Meant) → ((j : ℕ) → MakesNoWord (f j)) → MakesNoWord (with_number o f)
number_given (Some j) f h = h j
number_given None f h = tt

child_given : (o : Option Opened) (f : Frame → Term → Meant) → IfSome o (λ c. HasNoWordBeside c.frame × HasNoWordOf c.child)
    → ((g : Frame) (e : Term) → HasNoWordBeside g → HasNoWordOf e → MakesNoWord (f g e)) → MakesNoWord (with_opened o f)
child_given (Some c) f p h = h c.frame c.child p.0 p.1
child_given None f p h = tt

if_fitting : (b : Bool) (m : Meant) → MakesNoWord m → MakesNoWord (fitting b m)
if_fitting true m h = h
if_fitting false m h = tt

beside_under_let : (g : Frame) → HasNoWordBeside g → HasNoWordBeside (under_one_more g)
beside_under_let (OfIndex x) h = tt
beside_under_let (OfGen n) h = tt
beside_under_let (OfSum n) h = tt
beside_under_let (OfGuard c) h = tt
beside_under_let (OfDefinition b) h = h
beside_under_let (OfBody a) h = h
beside_under_let (AddLeft b) h = under_let_words b h
beside_under_let (AddRight a) h = under_let_words a h
beside_under_let (SubLeft b) h = under_let_words b h
beside_under_let (SubRight a) h = under_let_words a h
beside_under_let (MulLeft b) h = under_let_words b h
beside_under_let (MulRight a) h = under_let_words a h
beside_under_let (ConcatLeft b) h = under_let_words b h
beside_under_let (ConcatRight a) h = under_let_words a h
beside_under_let OfFlatten h = tt
beside_under_let (OfSplit k) h = tt
beside_under_let OfTranspose h = tt
beside_under_let (OfTruncL n) h = tt
beside_under_let (OfTruncR n) h = tt
beside_under_let (OfPadL n) h = tt
beside_under_let (OfPadR n) h = tt

pub let_words : (f : Focus) (rule : LetRule) (as' : List Arg) → HasNoWordOf f.term → MakesNoWord (rule_of f rule as')
let_words f LetIntro as' p = with_none as' _ (p, tt)
let_words f LetInline as' p = at_let f.term _ p (λ a b h k. with_none as' _ (put_tensor_words a 0 b h k))
let_words f LetUse as' p = number_given (variable_of as') _ (λ q. if_fitting (is_definition q f.term f.bound) _ tt)
let_words f LetOutOfGen as' p =
    at_gen f.term _ p (λ n e h. at_let e _ h (λ a b k l. with_none as' _ (k, put_tensor_words row_of_variable 1 b tt l)))
let_words f LetLiftGen as' p =
    at_gen f.term _ p (λ n e h. at_let e _ h (λ a b k l. if_provided (not (uses_index a 0)) _ (with_none as' _ (lowered_words a k, l))))
let_words f LetOutOfSum as' p =
    at_sum f.term _ p (λ n e h. at_let e _ h (λ a b k l. if_provided (not (uses_index a 0)) _ (with_none as' _ (lowered_words a k, l))))
let_words f LetIndex as' p = at_index f.term _ p (λ e x h. at_let e _ h (λ a b k l. with_none as' _ (k, l)))
let_words f LetGuard as' p = at_guard f.term _ p (λ c e h. at_let e _ h (λ a b k l. with_none as' _ (k, l)))
let_words f LetLet as' p =
    at_let f.term _ p (λ e c h k. at_let e _ h (λ a b l o. with_none as' _ (l, (o, put_tensor_words (TVar 0) 2 c tt k))))
let_words f LetDrop as' p = at_let f.term _ p (λ a b h k. if_provided (not (uses_tensor b 0)) _ (with_none as' _ (put_tensor_words a 0 b h k)))
let_words f LetOp as' p =
    if_provided (is_operator f.term) _
    (number_given (number_of as') _ (λ j. child_given (opened f.term j) _ (at_child f.term j p) (λ g e h k. let_given e _ k (λ a b l o.
    (l, filled_words (under_one_more g) b (beside_under_let g h) o)))))
