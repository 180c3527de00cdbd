-- The compiler is correct, and so is what else is told of a source.
use Rattle.std.specs.Prelude.{◌≡◌, ◌≢◌, ◌⊎◌, All, ℕ, false, List, Ok, Err, Some, None}
use Rattle.std.specs.declared.option.Option.{Option}
use Rattle.term_tree.specs.declared.term.Module.{Module}
use Rattle.term_tree.specs.declared.term.Path.{Path}
use Rattle.linear_cert.specs.declared.lines.FinalLine.{FinalLine}
use Rattle.loop_lang.specs.declared.stmt.Prog.{Prog}
use Rattle.loop_lang.specs.Form.{IsWellFormed}
use Rattle.term_tree.specs.Modules.{Allowed, IsSound}
use Rattle.admission.specs.Admission.{Accepted, admission_fault}
use Rattle.admission.specs.declared.fault.AdmissionFault.{AdmissionFault}
use Rattle.source_grammar.specs.Source.{SourceText}
use Rattle.atl_reader.specs.Source.{IsCause, IsFirstFault}
use Rattle.atl_reader.specs.declared.fault.ReadFault.{ReadFault}
use Rattle.atl_reader.specs.declared.fault.ReadFault.TheVariants.{Memory}
use Rattle.schedule_script.specs.Script.{IsRefusedText, ScriptText}
use Rattle.schedule_script.specs.declared.fault.ScriptFault.{ScriptFault}
use Rattle.schedule_script.specs.declared.fault.ScriptFault.TheVariants as unreadable
use Rattle.schedule_script.specs.declared.tree.Script.{Script}
use Rattle.schedule_run.specs.Versions.{IsVersion, last_version_of, versions_of}
use Rattle.schedule_run.specs.declared.fault.StepFault.{StepFault}
use Rattle.final_rules.specs.Rules.{final_fault}
use Rattle.final_rules.specs.declared.fault.FinalFault.{FinalFault}
use Rattle.lowering_laws.specs.Correct.{HasLengths, IsCorrect}
use Rattle.lowering_laws.specs.Lowered.{loops_of}
use Rattle.lowering_laws.specs.Nest.{module_nest, nests_of_program}
use Rattle.c_print.specs.Program.{canonical_text}
use Rattle.c_text.specs.Statement.{CText}
use Rattle.c_execution.specs.Executed.{IsExecFault, IsExecuted}
use Rattle.c_execution.specs.declared.fault.ExecFault.{ExecFault}
use Rattle.c_execution.specs.declared.fault.ExecFault.TheVariants as exec
use Rattle.run_text.specs.declared.fault.RunFault.{RunFault}
use Rattle.run_text.specs.declared.fault.RunFault.TheVariants as run
use Rattle.version_run.specs.VersionRun.{IsDenoted, IsVersionFault}
use Rattle.trial_text.specs.TrialText.{trial_script, trial_source}
use Rattle.trial_run.specs.TrialRun.{IsTrialOf}
use Rattle.plain_run.specs.PlainRun.{IsPlainDenoted, IsPlainFault}
use Rattle.plain_run.specs.declared.fault.PlainFault.{PlainFault}
use Rattle.plain_run.specs.declared.fault.PlainFault.TheVariants as plain
use Rattle.stages_text.specs.Stages.{AreBlocks}
use Rattle.facts_run.specs.Claims.{facts_text}
use Rattle.atl_driver.specs.declared.command.Verb.{Verb}
use Rattle.atl_driver.specs.declared.command.Verb.TheVariants.{Compile, Exec, Plain, Stages, Trial, Facts as FactsOf, Run as RunOf}
use Rattle.atl_driver.specs.Asked.{Asked, Errand, OfTrial, OnText, Loops, Versions, Facts, Run, given_to}
use Rattle.atl_driver.specs.declared.fault.Fault.{Fault}
use Rattle.atl_driver.specs.Compile.{admission_fault_of, exec_fault_of, fault_of, final_fault_of, first_content, given_content, is_unshown, no_steps}
use Rattle.atl_driver.specs.Compile.{plain_fault_of}
use Rattle.atl_driver.specs.Compile.{run_fault_of, script_content, script_fault_of, second_content, step_fault_of}

-- The module keeps the rules of the final form with these final lines and marks. The text is the canonical text of its loops, and reads back as that
-- program alone, by the grammar of C texts.
-- The program is well formed, and
-- its loops, without places and fills, are those of the module and no others. Its printed lengths are the numbers of words of the module's tensors and of
-- the scratch region, and its every run at all allowed sizes, on inputs and scratch of these lengths and whatever outputs and scratch hold, ends, touches no
-- index outside a buffer, and leaves in the outputs exactly the words that the module denotes.
pub record AreLoops (last : Module) (finals : List FinalLine) (marks : List Path) (text : List ℕ) : Type 0 where
  pub accepted : final_fault last finals marks ≡ None
  pub program : Prog
  pub loops : program ≡ loops_of last marks
  pub prints : text ≡ canonical_text program
  pub reads_back : CText text program
  pub alone : (other : Prog) → CText text other → other ≡ program
  pub nests : nests_of_program program ≡ module_nest last marks
  pub formed : IsWellFormed program
  pub lengths : HasLengths last program
  pub correct : IsCorrect last program

-- The steps of the schedule lead from this module to a last version, and the text is that of the last version's loops. What every run of them leaves is what
-- the module without any step denotes.
pub record IsScheduled (origin : Module) (schedule : Script) (text : List ℕ) : Type 0 where
  pub last : Module
  pub steps : last_version_of origin schedule.steps ≡ Ok last
  pub version : IsVersion origin last
  pub loops : AreLoops last schedule.finals schedule.parallel text
  pub correct : IsCorrect origin loops.program

-- The steps of the schedule lead from this module to these versions, itself the first, each of which denotes what the module does. The text has a block for
-- each, in order, and the text below the line of a block is that of its version, and of no other module.
pub record AreVersions (origin : Module) (schedule : Script) (text : List ℕ) : Type 0 where
  pub versions : List Module
  pub steps : versions_of origin schedule.steps ≡ Ok versions
  pub each : All (IsVersion origin) versions
  pub blocks : AreBlocks 0 versions text

-- The given text gives sizes that this module allows and the words of tensors of the declared extents. On a text each line tells the words of what the module
-- denotes of them; the line of a trial has their sum, and the nodes of the last version and the bytes of the C text of its loops. The stores are those of the
-- loops at these sizes.
abbrev pub IsToldOf : Errand → Module → Prog → Module → List ℕ → Type 0
IsToldOf (OnText given) last program origin text = IsDenoted origin program given text
IsToldOf (OfTrial steps) last program origin text = IsTrialOf steps last program origin text

-- The steps of the schedule lead from this module to a last version, which keeps the rules of the final form. What is told of a run of its loops is what the
-- module without any step denotes.
pub record IsLeft (origin : Module) (schedule : Script) (errand : Errand) (text : List ℕ) : Type 0 where
  pub last : Module
  pub steps : last_version_of origin schedule.steps ≡ Ok last
  pub version : IsVersion origin last
  pub accepted : final_fault last schedule.finals schedule.parallel ≡ None
  pub told : IsToldOf errand last (loops_of last schedule.parallel) origin text

-- What is asked for is made of the module under the schedule. The facts are a block for each condition of each step, and then for each goal of the last
-- version, up to and with the first that is not shown.
abbrev pub IsEmitted : Asked → Module → Script → List ℕ → Type 0
IsEmitted Loops origin schedule text = IsScheduled origin schedule text
IsEmitted Versions origin schedule text = AreVersions origin schedule text
IsEmitted Facts origin schedule text = text ≡ facts_text origin schedule
IsEmitted (Run errand) origin schedule text = IsLeft origin schedule errand text

-- the source is the text of exactly one module
pub record IsTextOf (source : List ℕ) (origin : Module) : Type 0 where
  pub reads : SourceText source origin
  pub only : (other : Module) → SourceText source other → other ≡ origin

-- the text is that of exactly one script
pub record IsTextOfScript (text : List ℕ) (schedule : Script) : Type 0 where
  pub reads : ScriptText text schedule
  pub only : (other : Script) → ScriptText text other → other ≡ schedule

-- the script of a text, where there is one, and else the script without steps
abbrev pub IsScriptOf : Option (List ℕ) → Script → Type 0
IsScriptOf None schedule = schedule ≡ no_steps
IsScriptOf (Some text) schedule = IsTextOfScript text schedule

-- the module breaks no rule of shapes, extents and example; so it is sound, and its example is a choice of allowed sizes
pub record IsAdmitted (origin : Module) : Type 0 where
  pub accepted : Accepted origin
  pub sound : IsSound origin
  pub example : Allowed origin origin.example

-- the script is that of exactly one schedule, and the text is what is made of the module under it
pub record IsTextUnder (emit : Asked) (origin : Module) (script : Option (List ℕ)) (text : List ℕ) : Type 0 where
  pub schedule : Script
  pub reads : IsScriptOf script schedule
  pub scheduled : IsEmitted emit origin schedule text

-- The source is the text of exactly one module, which is sound and whose example is a choice of allowed sizes, the script is the text of exactly one
-- schedule, and the text is what is made of both: that of the loops of the last version to which its steps lead, which leave what the module of the source
-- denotes; or that of all versions, each of which denotes what the module of the source does; or that of what the steps and the last version have to show;
-- or that of what a run of these loops tells, which is what the module of the source denotes.
pub record IsCompiled (emit : Asked) (source : List ℕ) (script : Option (List ℕ)) (text : List ℕ) : Type 0 where
  pub origin : Module
  pub reads : IsTextOf source origin
  pub admitted : IsAdmitted origin
  pub under : IsTextUnder emit origin script text

-- the source is the text of no module, and this is the cause, the first one in the text
pub record IsUnread (source : List ℕ) (fault : Fault) : Type 0 where
  pub cause : ReadFault
  pub told : fault ≡ fault_of cause
  pub is_cause : IsCause source cause
  pub first : IsFirstFault source cause
  pub fails : cause ≢ Memory
  pub none : (m : Module) → SourceText source m → ⊥

-- this is the first rule of shapes, extents and example that the module breaks
pub record IsUnadmitted (origin : Module) (fault : Fault) : Type 0 where
  pub broken : AdmissionFault
  pub first : admission_fault origin ≡ Some broken
  pub told : fault ≡ admission_fault_of broken

-- the text of the script is that of no schedule, and this is the first place that decides it
pub record IsUnscripted (script : Option (List ℕ)) (fault : Fault) : Type 0 where
  pub text : List ℕ
  pub given : script ≡ Some text
  pub cause : ScriptFault
  pub told : fault ≡ script_fault_of cause
  pub is_cause : IsRefusedText text cause
  pub fails : cause ≢ unreadable.Memory
  pub none : (schedule : Script) → ScriptText text schedule → ⊥

-- a step of the schedule fails, and this is the first that does, and why
pub record IsUnstaged (origin : Module) (schedule : Script) (fault : Fault) : Type 0 where
  pub failing : StepFault
  pub first : last_version_of origin schedule.steps ≡ Err failing
  pub told : fault ≡ step_fault_of failing

-- the steps of the schedule lead to a last version, and this is the first rule of the final form that it breaks
pub record IsUnlowerable (origin : Module) (schedule : Script) (fault : Fault) : Type 0 where
  pub last : Module
  pub steps : last_version_of origin schedule.steps ≡ Ok last
  pub broken : FinalFault
  pub first : final_fault last schedule.finals schedule.parallel ≡ Some broken
  pub told : fault ≡ final_fault_of broken

-- Running this program of the module on the given text comes to no text, and this is the first cause. It is never that the run is stuck: the loops of an
-- accepted module touch no place outside a buffer, and compute each index.
pub record IsUnran (origin : Module) (program : Prog) (given : List ℕ) (fault : Fault) : Type 0 where
  pub cause : RunFault
  pub told : fault ≡ run_fault_of cause
  pub is_cause : IsVersionFault origin program given cause
  pub fails : cause ≢ run.Memory
  pub ends : fault.number ≢ 51

-- the steps of the schedule lead to a last version, which keeps the rules of the final form, and this is the first fault of the given text and the run
pub record IsUnrun (origin : Module) (schedule : Script) (given : List ℕ) (fault : Fault) : Type 0 where
  pub last : Module
  pub steps : last_version_of origin schedule.steps ≡ Ok last
  pub accepted : final_fault last schedule.finals schedule.parallel ≡ None
  pub unran : IsUnran origin (loops_of last schedule.parallel) given fault

-- the first fault under a schedule: of the steps in order; then, where its loops are asked for, of the last version; and where its facts are, one that is not
-- that of a condition or a goal that is not shown; and where a run is, of the given text and the run
abbrev pub IsUnemitted : Asked → Module → Script → Fault → Type 0
IsUnemitted Loops origin schedule fault = IsUnstaged origin schedule fault ⊎ IsUnlowerable origin schedule fault
IsUnemitted Versions origin schedule fault = IsUnstaged origin schedule fault
IsUnemitted Facts origin schedule fault = (IsUnstaged origin schedule fault ⊎ IsUnlowerable origin schedule fault) × (is_unshown fault ≡ false)
IsUnemitted (Run errand) origin schedule fault =
    (IsUnstaged origin schedule fault ⊎ IsUnlowerable origin schedule fault) ⊎ IsUnrun origin schedule (given_to errand) fault

-- the script is that of exactly one schedule, under which this is the first fault of the module
pub record IsRefusedSchedule (emit : Asked) (origin : Module) (script : Option (List ℕ)) (fault : Fault) : Type 0 where
  pub schedule : Script
  pub reads : IsScriptOf script schedule
  pub why : IsUnemitted emit origin schedule fault

-- why a module that is admitted has no text under a script: reading the script first
abbrev pub IsRefusedScript : Asked → Module → Option (List ℕ) → Fault → Type 0
IsRefusedScript emit origin script fault = IsUnscripted script fault ⊎ IsRefusedSchedule emit origin script fault

-- why a module has no text under a script: its own rules first
abbrev pub IsRefusedModule : Asked → Module → Option (List ℕ) → Fault → Type 0
IsRefusedModule emit origin script fault = IsUnadmitted origin fault ⊎ (Accepted origin × IsRefusedScript emit origin script fault)

-- the source is the text of exactly one module, and this is its first fault under the script
pub record IsRefusedOrigin (emit : Asked) (source : List ℕ) (script : Option (List ℕ)) (fault : Fault) : Type 0 where
  pub origin : Module
  pub reads : IsTextOf source origin
  pub why : IsRefusedModule emit origin script fault

-- why a source has no text under a script: reading the source first
abbrev pub IsRefusedSource : Asked → List ℕ → Option (List ℕ) → Fault → Type 0
IsRefusedSource emit source script fault = IsUnread source fault ⊎ IsRefusedOrigin emit source script fault

-- executing the C text on the given text comes to no text, and this is the first cause
pub record IsUnexecuted (c given : List ℕ) (fault : Fault) : Type 0 where
  pub cause : ExecFault
  pub told : fault ≡ exec_fault_of cause
  pub is_cause : IsExecFault c given cause
  pub fails : cause ≢ exec.Run run.Memory

-- The source is the text of exactly one module, and is accepted under the script. The given text gives sizes that this module allows and the words of
-- tensors of the declared extents, and each line tells the words of what it denotes of them.
pub record IsPlainlyTold (source script given text : List ℕ) : Type 0 where
  pub c : List ℕ
  pub accepted : IsCompiled Loops source (Some script) c
  pub denoted : IsPlainDenoted accepted.origin given text

-- the plain evaluator comes to no text of the module on the given text, and this is the first cause
pub record IsUnplain (origin : Module) (given : List ℕ) (fault : Fault) : Type 0 where
  pub cause : PlainFault
  pub told : fault ≡ plain_fault_of cause
  pub is_cause : IsPlainFault origin given cause
  pub fails : cause ≢ plain.Memory

-- the source is accepted under the script, and this is the first fault of the given text and the work
pub record IsUnplainSource (source script given : List ℕ) (fault : Fault) : Type 0 where
  pub c : List ℕ
  pub accepted : IsCompiled Loops source (Some script) c
  pub why : IsUnplain accepted.origin given fault

-- why nothing is told plainly: the verdict first
abbrev pub IsRefusedPlainly : List ℕ → List ℕ → List ℕ → Fault → Type 0
IsRefusedPlainly source script given fault = IsRefusedSource Loops source (Some script) fault ⊎ IsUnplainSource source script given fault

-- every module whose text this is is sound
abbrev pub IsSoundText : List ℕ → Type 0
IsSoundText source = (m : Module) → SourceText source m → IsSound m

-- the source is the text of a module, which denotes what is told
pub record IsReadPlainly (source given text : List ℕ) : Type 0 where
  pub origin : Module
  pub reads : SourceText source origin
  pub denoted : IsPlainDenoted origin given text

-- the source is the text of a module, of which nothing is told plainly
pub record IsUnplainRead (source given : List ℕ) (fault : Fault) : Type 0 where
  pub origin : Module
  pub reads : SourceText source origin
  pub why : IsUnplain origin given fault

-- the text is right for the contents of a command's files
abbrev pub IsRight : Verb → List (List ℕ) → List ℕ → Type 0
IsRight Compile contents text = IsCompiled Loops (first_content contents) (second_content contents) text
IsRight Stages contents text = IsCompiled Versions (first_content contents) (Some (script_content contents)) text
IsRight FactsOf contents text = IsCompiled Facts (first_content contents) (Some (script_content contents)) text
IsRight RunOf contents text = IsCompiled (Run (OnText (given_content contents))) (first_content contents) (Some (script_content contents)) text
IsRight Plain contents text = IsPlainlyTold (first_content contents) (script_content contents) (given_content contents) text
IsRight Exec contents text = IsExecuted (first_content contents) (script_content contents) text
IsRight (Trial steps) contents text = IsCompiled (Run (OfTrial steps)) (trial_source steps) (Some (trial_script steps)) text

-- the fault has its cause in the contents of a command's files
abbrev pub HasFault : Verb → List (List ℕ) → Fault → Type 0
HasFault Compile contents fault = IsRefusedSource Loops (first_content contents) (second_content contents) fault
HasFault Stages contents fault = IsRefusedSource Versions (first_content contents) (Some (script_content contents)) fault
HasFault FactsOf contents fault = IsRefusedSource Facts (first_content contents) (Some (script_content contents)) fault
HasFault RunOf contents fault = IsRefusedSource (Run (OnText (given_content contents))) (first_content contents) (Some (script_content contents)) fault
HasFault Plain contents fault = IsRefusedPlainly (first_content contents) (script_content contents) (given_content contents) fault
HasFault Exec contents fault = IsUnexecuted (first_content contents) (script_content contents) fault
HasFault (Trial steps) contents fault = IsRefusedSource (Run (OfTrial steps)) (trial_source steps) (Some (trial_script steps)) fault
