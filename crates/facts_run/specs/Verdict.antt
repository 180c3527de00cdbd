-- Where there is a text of the facts: wherever nothing but a condition or a goal that is not shown stands against the script.
use Rattle.std.specs.Prelude.{◌≡◌, ◌≢◌, ℕ, [], Option, Some, None, Result, Ok, Err, ⊤}
use Rattle.std.specs.declared.vec.Vec.{Vec}
use Rattle.facts_text.specs.Form.{Text}
use Rattle.final_rules.specs.Rules.{final_fault}
use Rattle.final_rules.specs.declared.fault.FinalFault.{FinalFault}
use Rattle.final_rules.specs.declared.fault.FinalFault.TheVariants.{AccessNotShown, DropNotShown}
use Rattle.path_focus.specs.Outcome.{AllListed}
use Rattle.path_focus.specs.declared.rule.RuleFault.{RuleFault}
use Rattle.path_focus.specs.declared.rule.RuleFault.TheVariants.{ConditionNotShown}
use Rattle.schedule_run.specs.Conditions.{Owed}
use Rattle.schedule_run.specs.Verdict.{version_after}
use Rattle.schedule_run.specs.Versions.{MayRun, last_version_of}
use Rattle.schedule_run.specs.declared.fault.StepFault.{StepFault}
use Rattle.schedule_run.specs.declared.fault.StepKind.{StepKind}
use Rattle.schedule_run.specs.declared.fault.StepKind.TheVariants as kind
use Rattle.schedule_script.specs.declared.tree.Script.{Script}
use Rattle.schedule_script.specs.declared.tree.Step.{Step}
use Rattle.term_tree.specs.declared.term.Module.{Module}
use Rattle.facts_run.specs.Claims.{facts_text}
use Rattle.facts_run.specs.declared.fault.FactsFault.{FactsFault}
use Rattle.facts_run.specs.declared.fault.FactsFault.TheVariants.{Step as OfStep, Final as OfFinal, Memory}

-- a rule that fails for another reason than a condition
abbrev pub rule_refusal : ℕ → RuleFault → Option FactsFault
rule_refusal number (ConditionNotShown n) = None
rule_refusal number fault = Some (OfStep (record { step = number; kind = kind.Rule fault }))

-- a step that fails for another reason than a condition
abbrev pub kind_refusal : ℕ → StepKind → Option FactsFault
kind_refusal number (kind.Rule fault) = rule_refusal number fault
kind_refusal number k = Some (OfStep (record { step = number; kind = k }))

-- a last version that breaks another rule than that of goals
abbrev pub final_refusal : Option FinalFault → Option FactsFault
final_refusal None = None
final_refusal (Some (AccessNotShown n)) = None
final_refusal (Some (DropNotShown n)) = None
final_refusal (Some fault) = Some (OfFinal fault)

-- the last version of a script, or the first step that fails
abbrev pub staged_refusal : Result Module StepFault → Script → Option FactsFault
staged_refusal (Ok last) script = final_refusal (final_fault last script.finals script.parallel)
staged_refusal (Err fault) script = kind_refusal fault.step fault.kind

-- the first fault of a script, where it is no condition and no goal that is not shown
abbrev pub refusal : Module → Script → Option FactsFault
refusal m script = staged_refusal (last_version_of m script.steps) script

-- the text, where nothing refuses it
abbrev pub unless_refused : Option FactsFault → Text → Result Text FactsFault
unless_refused None text = Ok text
unless_refused (Some fault) text = Err fault

-- the text of the facts of a module under a script, or the first fault
unfoldable pub facts_of : Module → Script → Result Text FactsFault
facts_of m script = unless_refused (refusal m script) (facts_text m script)

-- the refusal is the wanted one, unless memory runs out
abbrev pub Tells : Option FactsFault → FactsFault → Type 0
Tells want Memory = ⊤
Tells want fault = want ≡ Some fault

module _ {A : Type 0} where
  -- the answer is the wanted one, unless memory runs out
  abbrev pub Answers : Result Text FactsFault → Result (Vec ℕ A) FactsFault → Type 0
  Answers want (Ok text) = want ≡ Ok text.items
  Answers want (Err Memory) = ⊤
  Answers want (Err fault) = want ≡ Err fault

-- the facts of the conditions of a step may be listed
abbrev pub OwedListed : Owed → Type 0
OwedListed (Ok cs) = AllListed cs
OwedListed (Err k) = Unit {0}

-- a version whose facts may be told: it may be scheduled, and has outputs
pub record MayTell (m : Module) : Type 0 where
  pub runs : MayRun m
  pub some : m.outputs ≢ []

-- what comes of a step: the version after it; none where a condition is not shown; or its fault
abbrev pub IsStep : Module → Step → ℕ → Result (Option Module) FactsFault → Type 0
IsStep m s number (Ok (Some v)) = version_after m s ≡ Ok v
IsStep m s number (Ok None) = (n : ℕ) × (version_after m s ≡ Err (kind.Rule (ConditionNotShown n)))
IsStep m s number (Err Memory) = ⊤
IsStep m s number (Err (OfStep fault)) = (fault.step ≡ number) × (version_after m s ≡ Err fault.kind) × (kind_refusal number fault.kind ≡ Some (OfStep fault))
IsStep m s number (Err (OfFinal fault)) = ⊥
