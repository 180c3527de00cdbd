-- The conditions of one step of a script.
use Rattle.std.specs.Prelude.{◌≡◌, List, map, Option, Some, None, Result, Ok, Err}
use Rattle.path_focus.specs.Focus.{focus_of}
use Rattle.path_focus.specs.Outcome.{Makes, Meant, Unfit, Unlike}
use Rattle.path_focus.specs.declared.place.Focus.{Focus}
use Rattle.path_focus.specs.declared.rule.Condition.{Condition}
use Rattle.path_focus.specs.declared.rule.RuleFault.TheVariants as broken
use Rattle.schedule_run.specs.Names.{meant_by, rule_named}
use Rattle.schedule_run.specs.declared.fault.StepKind.{StepKind}
use Rattle.schedule_run.specs.declared.fault.StepKind.TheVariants.{NoSuchRule, NoSuchPath, Memory}
use Rattle.schedule_run.specs.declared.fault.StepKind.TheVariants as kind
use Rattle.schedule_run.specs.declared.names.Rule.{Rule}
use Rattle.schedule_script.specs.declared.tree.Step.{Step}
use Rattle.script_arguments.specs.Arguments.{arguments_at}
use Rattle.term_tree.specs.declared.term.Module.{Module}

abbrev pub Owed : Type 0
Owed = Result (List Condition) StepKind

-- the conditions of what a rule makes, or that its pattern or its arguments do not fit
abbrev pub owed_by : Meant → Owed
owed_by Unlike = Err (kind.Rule broken.PatternMismatch)
owed_by Unfit = Err (kind.Rule broken.BadArgument)
owed_by (Makes raw cs) = Ok cs

-- those of a rule at the place of a step, which is there
abbrev pub owed_at : Module → Step → Rule → Option Focus → Owed
owed_at m s r None = Err NoSuchPath
owed_at m s r (Some f) = owed_by (meant_by r f (arguments_at (map (λ d. d.name) m.sizes) f s.rule s.args))

-- those of the rule of a step, where its name is that of one
abbrev pub owed_of : Module → Step → Option Rule → Owed
owed_of m s None = Err NoSuchRule
owed_of m s (Some r) = owed_at m s r (focus_of m s.path)

-- the conditions of a step in order, each with its facts
unfoldable pub conditions_of_step : Module → Step → Owed
conditions_of_step m s = owed_of m s (rule_named s.rule)

-- the refusal is the wanted one; want of memory tells nothing
abbrev pub TellsOwed : Owed → StepKind → Type 0
TellsOwed want Memory = Unit {0}
TellsOwed want k = want ≡ Err k

-- the answer, unless memory runs out
abbrev pub AnswersOwed : Owed → Owed → Type 0
AnswersOwed want (Ok cs) = want ≡ Ok cs
AnswersOwed want (Err k) = TellsOwed want k
