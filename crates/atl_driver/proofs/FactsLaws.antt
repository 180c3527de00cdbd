-- What is told of a script's facts, as what the verdict allows.
use Rattle.std.proofs.Common.{◌≡◌, ℕ, Bool, true, false, List, if◌then◌else◌, refl, ap, sym, ◌∙◌, IfOk, Ok, Err, Some, None}
use Rattle.std.specs.declared.option.Option.{Option}
use Rattle.std.specs.declared.result.Result.{Result}
use Rattle.std.specs.declared.vec.Vec.{Vec}
use Rattle.facts_run.specs.Claims.{facts_text}
use Rattle.facts_run.specs.Verdict.{facts_of, final_refusal, kind_refusal, rule_refusal, staged_refusal, unless_refused}
use Rattle.facts_run.specs.declared.fault.FactsFault.{FactsFault}
use Rattle.facts_run.specs.declared.fault.FactsFault.TheVariants as untold
use Rattle.final_rules.specs.Rules.{final_fault}
use Rattle.final_rules.specs.declared.fault.FinalFault.{FinalFault}
use Rattle.final_rules.specs.declared.fault.FinalFault.TheVariants as final
use Rattle.path_focus.specs.declared.rule.RuleFault.{RuleFault}
use Rattle.path_focus.specs.declared.rule.RuleFault.TheVariants as rule
use Rattle.schedule_run.specs.Versions.{last_version_of}
use Rattle.schedule_run.specs.declared.fault.StepFault.{StepFault}
use Rattle.schedule_run.specs.declared.fault.StepKind.{StepKind}
use Rattle.schedule_run.specs.declared.fault.StepKind.TheVariants as step
use Rattle.schedule_script.specs.declared.tree.Script.{Script}
use Rattle.term_tree.specs.declared.term.Module.{Module}
use Rattle.term_tree.specs.declared.term.Path.{Path}
use Rattle.atl_driver.specs.Compile.{Answers, TellsFinal, TellsStep, emitted_as, final_fault_of, is_unshown, kind_fault_of, lowered_as, no_fault, rule_fault_of}
use Rattle.atl_driver.specs.Compile.{staged_as, step_fault_of, unless_unshown}
use Rattle.atl_driver.specs.declared.compile.CompileRefusal.{CompileRefusal}
use Rattle.atl_driver.specs.declared.compile.CompileRefusal.TheVariants.{Refused, Memory}
use Rattle.atl_driver.specs.Asked.{Facts}
use Rattle.atl_driver.specs.declared.fault.Fault.{Fault}

-- the fault that is told
told_fault : FactsFault → Fault
told_fault (untold.Step fault) = step_fault_of fault
told_fault (untold.Final fault) = final_fault_of fault
told_fault untold.Memory = no_fault

told_as : Result (List ℕ) FactsFault → Result (List ℕ) Fault
told_as (Ok text) = Ok text
told_as (Err fault) = Err (told_fault fault)

of_rule : (at : ℕ) (f : RuleFault) (t : List ℕ) → told_as (unless_refused (rule_refusal at f) t) ≡ unless_unshown (Err (rule_fault_of at f)) t
unfolding told_as told_fault
of_rule at rule.PatternMismatch t = refl
of_rule at rule.BadArgument t = refl
of_rule at rule.ExtraLines t = refl
of_rule at (rule.ConditionNotShown n) t = refl
of_rule at rule.CoefficientTooLarge t = refl
of_rule at rule.IndexTooLong t = refl
of_rule at (rule.TooManyNodes n) t = refl
of_rule at rule.Memory t = refl

of_kind : (at : ℕ) (k : StepKind) (t : List ℕ) → told_as (unless_refused (kind_refusal at k) t) ≡ unless_unshown (Err (kind_fault_of at k)) t
unfolding told_as told_fault
of_kind at step.NoSuchRule t = refl
of_kind at step.NoSuchPath t = refl
of_kind at (step.Rule f) t = of_rule at f t
of_kind at step.TooDeep t = refl
of_kind at step.RankTooLarge t = refl
of_kind at (step.TooManyNodes n) t = refl
of_kind at step.CoefficientTooLarge t = refl
of_kind at step.IndexTooLong t = refl
of_kind at step.Memory t = refl

of_last : (o : Option FinalFault) (last : Module) (marks : List Path) (t : List ℕ)
    → told_as (unless_refused (final_refusal o) t) ≡ unless_unshown (lowered_as o last marks) t
unfolding told_as told_fault
of_last None last marks t = refl
of_last (Some (final.NotLowerable path)) last marks t = refl
of_last (Some (final.AccessNotShown goal)) last marks t = refl
of_last (Some (final.DropNotShown goal)) last marks t = refl
of_last (Some (final.IndexTooLarge index)) last marks t = refl
of_last (Some (final.ParallelNotGen path)) last marks t = refl
of_last (Some (final.LetInParallel path)) last marks t = refl
of_last (Some (final.NestedParallel path)) last marks t = refl
of_last (Some (final.NoSuchGoal line)) last marks t = refl
of_last (Some final.Memory) last marks t = refl

-- what refuses the facts is the verdict's fault, other than that of a condition or a goal that is not shown
facts_verdict : (m : Module) (s : Script) → told_as (facts_of m s) ≡ emitted_as Facts m s
unfolding facts_of
facts_verdict m s = by (last_version_of m s.steps)
  where
    by : (r : Result Module StepFault) → told_as (unless_refused (staged_refusal r s) (facts_text m s)) ≡ unless_unshown (staged_as r s) (facts_text m s)
    by (Ok last) = of_last (final_fault last s.finals s.parallel) last s.parallel (facts_text m s)
    by (Err fault) = of_kind fault.step fault.kind (facts_text m s)

module _ (A : Type 0) where
  pub facts_answers : (m : Module) (s : Script) (text : Vec ℕ A) → facts_of m s ≡ Ok text.items → Answers (emitted_as Facts m s) (Ok text)
  unfolding told_as
  facts_answers m s text h = sym (facts_verdict m s) ∙ ap told_as h

  refused_as : (m : Module) (s : Script) (fault : FactsFault) (told : Fault) → facts_of m s ≡ Err fault → told ≡ told_fault fault
      → emitted_as Facts m s ≡ Err told
  unfolding told_as told_fault
  refused_as m s fault told h e = sym (facts_verdict m s) ∙ ap told_as h ∙ ap (λ (f : Fault). Err f) (sym e)

  -- of a step that fails
  pub unstaged_facts : (m : Module) (s : Script) (fault : StepFault) (refusal : CompileRefusal) → facts_of m s ≡ Err (untold.Step fault)
      → TellsStep fault refusal → Answers {A = A} (emitted_as Facts m s) (Err refusal)
  unfolding told_fault
  unstaged_facts m s fault Memory h tells = tt
  unstaged_facts m s fault (Refused told) h tells = refused_as m s (untold.Step fault) told h tells.0

  -- of a last version that breaks a rule
  pub unlowerable_facts : (m : Module) (s : Script) (fault : FinalFault) (refusal : CompileRefusal) → facts_of m s ≡ Err (untold.Final fault)
      → TellsFinal fault refusal → Answers {A = A} (emitted_as Facts m s) (Err refusal)
  unfolding told_fault
  unlowerable_facts m s fault Memory h tells = tt
  unlowerable_facts m s fault (Refused told) h tells = refused_as m s (untold.Final fault) told h tells.0

told_is : (r : Result (List ℕ) Fault) (t z : List ℕ) → unless_unshown r t ≡ Ok z → z ≡ t
told_is (Ok c) t z h = let same : t ≡ z = cc in sym same
told_is (Err fault) t z h = by (is_unshown fault) h
  where
    by : (b : Bool) → (let r : Result (List ℕ) Fault = if b then Ok t else Err fault in r) ≡ Ok z → z ≡ t
    by true h = let same : t ≡ z = cc in sym same
    by false h = absurd (cc)

-- a fault that refuses the facts is the verdict's, and another one than that of a condition or a goal that is not shown
pub fault_is : (r : Result (List ℕ) Fault) (t : List ℕ) (fault : Fault) → unless_unshown r t ≡ Err fault → (r ≡ Err fault) × (is_unshown fault ≡ false)
fault_is (Ok c) t fault h = absurd (cc)
fault_is (Err found) t fault h = by (is_unshown found) refl h
  where
    by : (b : Bool) → is_unshown found ≡ b → (let r : Result (List ℕ) Fault = if b then Ok t else Err found in r) ≡ Err fault
        → ((let r : Result (List ℕ) Fault = Err found in r) ≡ Err fault) × (is_unshown fault ≡ false)
    by true e h = absurd (cc)
    by false e h = let same : found ≡ fault = cc in (h, ap is_unshown (sym same) ∙ e)

module _ {A : Type 0} where
  pub facts_told : (m : Module) (s : Script) (r : Result (Vec ℕ A) CompileRefusal) → Answers (emitted_as Facts m s) r
      → IfOk r (λ text. text.items ≡ facts_text m s)
  facts_told m s (Ok text) h = told_is (staged_as (last_version_of m s.steps) s) (facts_text m s) text.items h
  facts_told m s (Err refusal) h = tt
