-- What a call of a rule answers: the faults in their order.
use Rattle.std.specs.Prelude.{All, IfOk, ◌≡◌, ◌≤◌, ◌<◌, ℕ, ◌+◌, ◌-◌, ◌^◌, List, [], ◌∷◌, length, get_or, Bool, true, false, nat_lt, nat_le, min, if◌then◌else◌}
use Rattle.std.specs.Prelude.{Option, Some, None, Result, Ok, Err}
use Rattle.affine_index.specs.declared.form.Items.{Items}
use Rattle.fact_list.specs.Facts.{moves_fit}
use Rattle.fact_list.specs.declared.facts.Facts.{Facts}
use Rattle.linear_cert.specs.Shown.{is_shown}
use Rattle.linear_cert.specs.declared.lines.Lines.{Lines}
use Rattle.linear_cert.specs.declared.lines.Lines.TheVariants.{Default}
use Rattle.affine_index.specs.Normal.{is_ordered}
use Rattle.term_tree.specs.Counts.{node_count}
use Rattle.term_tree.specs.Limits.{coefficients_fit, every_form, forms_short}
use Rattle.term_tree.specs.declared.term.Term.{Term}
use Rattle.path_focus.specs.Focus.{IsProper, IsTrueGoal, KeepsMeaning, KeepsShape}
use Rattle.path_focus.specs.declared.place.Focus.{Focus}
use Rattle.path_focus.specs.declared.outcome.Draft.{Draft}
use Rattle.path_focus.specs.declared.outcome.Draft.TheVariants.{Whole, TooLarge, TooLong, TooMany}
use Rattle.path_focus.specs.declared.outcome.Outcome.{Outcome}
use Rattle.path_focus.specs.declared.outcome.Outcome.TheVariants.{NoPattern, WrongArgument, Made}
use Rattle.path_focus.specs.declared.rule.Arg.{Arg}
use Rattle.path_focus.specs.declared.rule.Condition.{Condition}
use Rattle.path_focus.specs.declared.rule.RuleFault.{RuleFault}
use Rattle.path_focus.specs.declared.rule.RuleFault.TheVariants.{PatternMismatch, BadArgument, ExtraLines, ConditionNotShown, CoefficientTooLarge, IndexTooLong}
use Rattle.path_focus.specs.declared.rule.RuleFault.TheVariants.{TooManyNodes, Memory}

-- what the table of rules says of a focus and arguments; the forms of the result may break the limits
pub data Meant : Type 0 where
  Unlike : Meant
  Unfit : Meant
  Makes : Term → List Condition → Meant

-- a rule without arguments
abbrev pub without_arguments : List Arg → Meant → Meant
without_arguments [] m = m
without_arguments (a ∷ as') m = Unfit

-- whether lines show a condition; one whose form breaks a limit isn't shown
abbrev pub goal_shown : Facts → Option Items → Lines → Bool
goal_shown f None ls = false
goal_shown f (Some g) ls = is_shown f g ls

-- whether lines show the goal of a condition by its facts
abbrev pub condition_shown : Condition → Lines → Bool
condition_shown c ls = goal_shown c.facts c.goal ls

-- whether the lines with its number show it, or the default lines where there are none
abbrev pub shown_by : List Lines → ℕ → Condition → Bool
shown_by ls n c = condition_shown c (get_or ls n Default)

-- the number, counted from 1, of the first condition that its lines do not show; so many conditions stand before these
abbrev pub first_unshown : List Lines → ℕ → List Condition → Option ℕ
first_unshown ls n [] = None
first_unshown ls n (c ∷ cs) = if shown_by ls n c then first_unshown ls (n + 1) cs else Some (n + 1)

-- the result within the limits, or the first limit that it breaks
abbrev pub limited : Term → Result Term RuleFault
limited raw =
    if coefficients_fit raw then
    (if forms_short raw then
    (if nat_le (node_count raw) 20000 then Ok raw else Err (TooManyNodes (min (node_count raw) (2 ^ 64 - 1))))
    else Err IndexTooLong)
    else Err CoefficientTooLarge

-- a condition that is not shown comes first
abbrev pub unless : Option ℕ → Result Term RuleFault → Result Term RuleFault
unless (Some n) r = Err (ConditionNotShown n)
unless None r = r

-- the answer: pattern, arguments, surplus lines, conditions, forms, nodes
abbrev pub answer : Meant → List Lines → Result Term RuleFault
answer Unlike ls = Err PatternMismatch
answer Unfit ls = Err BadArgument
answer (Makes raw cs) ls = if nat_lt (length cs) (length ls) then Err ExtraLines else unless (first_unshown ls 0 cs) (limited raw)

-- the conditions alone
abbrev pub conditions_of : Meant → Result (List Condition) RuleFault
conditions_of Unlike = Err PatternMismatch
conditions_of Unfit = Err BadArgument
conditions_of (Makes raw cs) = Ok cs

-- the answer, unless memory runs out
abbrev pub Answers : Result Term RuleFault → Result Term RuleFault → Type 0
Answers want (Err Memory) = Unit {0}
Answers want r = r ≡ want

-- a result as it was made, or which limit it breaks
abbrev pub IsDraft : Term → Draft → Type 0
IsDraft raw (Whole e) = (e ≡ raw) × (coefficients_fit raw ≡ true) × (forms_short raw ≡ true)
IsDraft raw TooLarge = coefficients_fit raw ≡ false
IsDraft raw TooLong = (coefficients_fit raw ≡ true) × (forms_short raw ≡ false)
IsDraft raw (TooMany n) = (coefficients_fit raw ≡ true) × (forms_short raw ≡ true) × (20000 < node_count raw) × (n ≡ min (node_count raw) (2 ^ 64 - 1))

-- what the code makes is what the table says, its result a draft
abbrev pub IsOutcome : Meant → Outcome → Type 0
IsOutcome Unlike NoPattern = Unit {0}
IsOutcome Unfit WrongArgument = Unit {0}
IsOutcome (Makes raw cs) (Made w) = (w.conditions ≡ cs) × IsDraft raw w.draft
IsOutcome _ _ = ⊥

-- the facts of a condition may be listed
abbrev pub IsListed : Condition → Type 0
IsListed c = (length c.facts.sizes ≤ 2147483647) × (length c.facts.path ≤ 2147483647) × (moves_fit c.facts.path ≡ true)

-- so those of each
abbrev pub AllListed : List Condition → Type 0
AllListed cs = All IsListed cs

-- each condition is true
abbrev pub AllTrueGoals : List Condition → Type 0
AllTrueGoals cs = All IsTrueGoal cs

-- what the table makes keeps the meaning where its conditions are true, and the shape
abbrev pub MeantKeeps : Focus → Meant → Type 0
MeantKeeps f Unlike = Unit {0}
MeantKeeps f Unfit = Unit {0}
MeantKeeps f (Makes raw cs) = (AllTrueGoals cs → KeepsMeaning f raw) × KeepsShape f raw

-- what each rule owes: at each proper focus of normal forms it keeps the meaning and the shape
abbrev pub RuleKeeps : (Focus → List Arg → Meant) → Type 0
RuleKeeps rule = (f : Focus) → IsProper f → every_form is_ordered f.term ≡ true → (args : List Arg) → MeantKeeps f (rule f args)

-- the facts of the conditions of what a rule makes may be listed
abbrev pub MadeListed : Outcome → Type 0
MadeListed NoPattern = Unit {0}
MadeListed WrongArgument = Unit {0}
MadeListed (Made w) = AllListed w.conditions

-- a result that is answered keeps meaning and shape wherever the table's does
abbrev pub KeepsIfMeant : Meant → Result Term RuleFault → Type 0
KeepsIfMeant m r = (f : Focus) → MeantKeeps f m → IfOk r (λ e. KeepsMeaning f e × KeepsShape f e)
