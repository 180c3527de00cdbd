-- What the files of a command come to.
use Rattle.std.specs.Prelude.{◌≡◌, ◌≢◌, ℕ, ◌==◌, Bool, ◌||◌, if◌then◌else◌, List, [], ◌∷◌, Ok, Err, Option, Some, None, ⊤}
use Rattle.std.specs.declared.result.Result.{Result}
use Rattle.std.specs.declared.vec.Vec.{Vec}
use Rattle.term_tree.specs.declared.term.Module.{Module}
use Rattle.term_tree.specs.declared.term.Path.{Path}
use Rattle.shape_rules.specs.declared.fault.ShapeFault.{ShapeFault}
use Rattle.shape_rules.specs.declared.fault.ShapeFault.TheVariants as shape
use Rattle.atl_reader.specs.declared.fault.ReadFault.{ReadFault}
use Rattle.atl_reader.specs.declared.fault.ReadFault.TheVariants as read
use Rattle.atl_reader.specs.Source.{read_source}
use Rattle.admission.specs.Admission.{admission_fault}
use Rattle.admission.specs.declared.fault.AdmissionFault.{AdmissionFault}
use Rattle.admission.specs.declared.fault.AdmissionFault.TheVariants as admission
use Rattle.schedule_script.specs.Script.{read_bytes}
use Rattle.schedule_script.specs.declared.fault.ScriptFault.{ScriptFault}
use Rattle.schedule_script.specs.declared.fault.ScriptFault.TheVariants as script
use Rattle.schedule_script.specs.declared.tree.Script.{Script}
use Rattle.path_focus.specs.declared.rule.RuleFault.{RuleFault}
use Rattle.path_focus.specs.declared.rule.RuleFault.TheVariants as rule
use Rattle.schedule_run.specs.Versions.{last_version_of, versions_of}
use Rattle.schedule_run.specs.declared.fault.StepFault.{StepFault}
use Rattle.schedule_run.specs.declared.fault.StepKind.{StepKind}
use Rattle.schedule_run.specs.declared.fault.StepKind.TheVariants as step
use Rattle.final_rules.specs.Rules.{final_fault}
use Rattle.final_rules.specs.declared.fault.FinalFault.{FinalFault}
use Rattle.final_rules.specs.declared.fault.FinalFault.TheVariants as final
use Rattle.loop_lang.specs.declared.stmt.Prog.{Prog}
use Rattle.lowering_laws.specs.Lowered.{loops_of}
use Rattle.c_print.specs.Program.{canonical_text}
use Rattle.loop_run.specs.declared.refusal.Stuck.{Stuck}
use Rattle.loop_run.specs.declared.refusal.Stuck.TheVariants as stuck
use Rattle.run_text.specs.declared.fault.RunFault.{RunFault}
use Rattle.run_text.specs.declared.fault.RunFault.TheVariants as run
use Rattle.version_run.specs.VersionRun.{version_run}
use Rattle.trial_text.specs.TrialText.{trial_script, trial_source}
use Rattle.trial_run.specs.TrialRun.{trial_run}
use Rattle.plain_run.specs.PlainRun.{plain_run}
use Rattle.plain_run.specs.declared.fault.PlainFault.{PlainFault}
use Rattle.plain_run.specs.declared.fault.PlainFault.TheVariants as plain
use Rattle.c_execution.specs.Executed.{exec_answer}
use Rattle.c_execution.specs.declared.fault.ExecFault.{ExecFault}
use Rattle.c_execution.specs.declared.fault.ExecFault.TheVariants as exec
use Rattle.stages_text.specs.Stages.{stages}
use Rattle.facts_run.specs.Claims.{facts_text}
use Rattle.atl_driver.specs.declared.command.Verb.{Verb}
use Rattle.atl_driver.specs.declared.command.Verb.TheVariants.{Compile, Exec, Plain, Stages, Trial, Facts as FactsOf, Run as RunOf}
use Rattle.atl_driver.specs.declared.compile.CompileRefusal.{CompileRefusal}
use Rattle.atl_driver.specs.declared.compile.CompileRefusal.TheVariants.{Refused, Memory}
use Rattle.atl_driver.specs.Asked.{Asked, Errand, OfTrial, OnText, Loops, Versions, Facts, Run}
use Rattle.atl_driver.specs.declared.fault.Fault.{Fault}
use Rattle.atl_driver.specs.declared.fault.FaultField.{FaultField}
use Rattle.atl_driver.specs.declared.fault.FaultField.TheVariants as field

-- a fault of one field
abbrev pub one_field : ℕ → FaultField → Fault
one_field number told = record { number = number; fields = told ∷ [] }

-- a rule is broken at this place
abbrev pub broken_at : ℕ → ℕ → Fault
broken_at number at = one_field number (field.At at)

-- a fault of two fields
abbrev pub two_fields : ℕ → FaultField → FaultField → Fault
two_fields number first second = record { number = number; fields = first ∷ second ∷ [] }

-- a fault of three fields
abbrev pub three_fields : ℕ → FaultField → FaultField → FaultField → Fault
three_fields number first second third = record { number = number; fields = first ∷ second ∷ third ∷ [] }

-- this step breaks a rule
abbrev pub broken_step : ℕ → ℕ → Fault
broken_step number at = one_field number (field.Step at)

-- want of memory is no fault, and has no number
abbrev pub no_fault : Fault
no_fault = record { number = 0; fields = [] }

-- the fault of a text that is not read
abbrev pub fault_of : ReadFault → Fault
fault_of (read.NotUtf8 at) = broken_at 1 at
fault_of (read.BadToken at) = broken_at 2 at
fault_of (read.BadSyntax at) = broken_at 3 at
fault_of (read.TooDeep at) = broken_at 4 at
fault_of (read.UnknownName at) = broken_at 5 at
fault_of (read.NameTwice at) = broken_at 6 at
fault_of (read.ReservedName at) = broken_at 7 at
fault_of (read.NumberTooLarge at) = broken_at 8 at
fault_of (read.NotAffine at) = broken_at 9 at
fault_of (read.CoefficientTooLarge at) = broken_at 16 at
fault_of (read.IndexTooLong at) = broken_at 17 at
fault_of (read.TooManyNodes nodes) = one_field 15 (field.Nodes nodes)
fault_of read.Memory = no_fault

-- the fault of shapes
abbrev pub shape_fault_of : ShapeFault → Fault
shape_fault_of (shape.InputRank input) = one_field 12 (field.Input input)
shape_fault_of (shape.RankMismatch path) = one_field 10 (field.Path path)
shape_fault_of (shape.ShapesDiffer path) = one_field 11 (field.Path path)
shape_fault_of (shape.RankTooLarge path) = one_field 12 (field.Path path)
shape_fault_of (shape.CoefficientTooLarge path) = one_field 16 (field.Path path)
shape_fault_of (shape.IndexTooLong path) = one_field 17 (field.Path path)
shape_fault_of shape.Memory = no_fault

-- the fault of a module that is not admitted
abbrev pub admission_fault_of : AdmissionFault → Fault
admission_fault_of (admission.Shape fault) = shape_fault_of fault
admission_fault_of (admission.ExtentNotShown goal) = one_field 13 (field.Goal goal)
admission_fault_of (admission.BadExample constraint) = one_field 14 (field.Constraint constraint)
admission_fault_of admission.Memory = no_fault

-- the fault of a module that may not be lowered
abbrev pub final_fault_of : FinalFault → Fault
final_fault_of (final.NotLowerable path) = one_field 30 (field.Path path)
final_fault_of (final.AccessNotShown goal) = one_field 31 (field.Goal goal)
final_fault_of (final.DropNotShown goal) = one_field 33 (field.Goal goal)
final_fault_of (final.IndexTooLarge index) = one_field 34 (field.Index index)
final_fault_of (final.ParallelNotGen path) = one_field 35 (field.Path path)
final_fault_of (final.LetInParallel path) = one_field 36 (field.Path path)
final_fault_of (final.NestedParallel path) = one_field 37 (field.Path path)
final_fault_of (final.NoSuchGoal line) = one_field 38 (field.Final line)
final_fault_of final.Memory = no_fault

-- the fault of a script that is not read
abbrev pub script_fault_of : ScriptFault → Fault
script_fault_of (script.ScriptSyntax at) = broken_at 20 at
script_fault_of script.Memory = no_fault

-- the fault of a rule that makes nothing at this step
abbrev pub rule_fault_of : ℕ → RuleFault → Fault
rule_fault_of at rule.PatternMismatch = broken_step 23 at
rule_fault_of at rule.BadArgument = broken_step 24 at
rule_fault_of at rule.ExtraLines = broken_step 26 at
rule_fault_of at (rule.ConditionNotShown condition) = two_fields 25 (field.Step at) (field.Condition condition)
rule_fault_of at rule.CoefficientTooLarge = broken_step 16 at
rule_fault_of at rule.IndexTooLong = broken_step 17 at
rule_fault_of at (rule.TooManyNodes nodes) = two_fields 15 (field.Step at) (field.Nodes nodes)
rule_fault_of at rule.Memory = no_fault

-- the fault of this step, which fails so
abbrev pub kind_fault_of : ℕ → StepKind → Fault
kind_fault_of at step.NoSuchRule = broken_step 21 at
kind_fault_of at step.NoSuchPath = broken_step 22 at
kind_fault_of at (step.Rule fault) = rule_fault_of at fault
kind_fault_of at step.TooDeep = broken_step 4 at
kind_fault_of at step.RankTooLarge = broken_step 12 at
kind_fault_of at (step.TooManyNodes nodes) = two_fields 15 (field.Step at) (field.Nodes nodes)
kind_fault_of at step.CoefficientTooLarge = broken_step 16 at
kind_fault_of at step.IndexTooLong = broken_step 17 at
kind_fault_of at step.Memory = no_fault

-- the fault of the first step that fails
abbrev pub step_fault_of : StepFault → Fault
step_fault_of fault = kind_fault_of fault.step fault.kind

-- the fault of loops that are stuck so, or have too many steps
abbrev pub stuck_fault_of : Stuck → Fault
stuck_fault_of (stuck.Outside buffer index) = one_field 51 (field.Outside buffer index)
stuck_fault_of stuck.Overflow = one_field 51 field.Overflow
stuck_fault_of stuck.NegativeDividend = one_field 51 field.Negative
stuck_fault_of (stuck.TooMuchWork steps) = one_field 44 (field.Steps steps)

-- the fault of a run, or of what it is given
abbrev pub run_fault_of : RunFault → Fault
run_fault_of (run.BadData at) = broken_at 40 at
run_fault_of (run.SizesNotAllowed constraint) = one_field 41 (field.Constraint constraint)
run_fault_of (run.Stuck why) = stuck_fault_of why
run_fault_of (run.TooBigToRun words) = one_field 43 (field.Words words)
run_fault_of (run.WrongCount input want got) = three_fields 42 (field.Input input) (field.Want want) (field.Got got)
run_fault_of run.Memory = no_fault

-- the fault of what the plain evaluator is given, or of its work, whose turns it tells as steps
abbrev pub plain_fault_of : PlainFault → Fault
plain_fault_of (plain.BadData at) = broken_at 40 at
plain_fault_of (plain.SizesNotAllowed constraint) = one_field 41 (field.Constraint constraint)
plain_fault_of (plain.TooBigToRun words) = one_field 43 (field.Words words)
plain_fault_of (plain.WrongCount input want got) = three_fields 42 (field.Input input) (field.Want want) (field.Got got)
plain_fault_of (plain.TooMuchWork steps) = one_field 44 (field.Steps steps)
plain_fault_of plain.Memory = no_fault

-- the fault of a C text that is not executed
abbrev pub exec_fault_of : ExecFault → Fault
exec_fault_of (exec.BadC at) = broken_at 50 at
exec_fault_of (exec.Run fault) = run_fault_of fault

-- the text of an execution, or its fault
abbrev pub executed_as : Result (List ℕ) ExecFault → Result (List ℕ) Fault
executed_as (Ok text) = Ok text
executed_as (Err fault) = Err (exec_fault_of fault)

-- the text of a last version with these marks
abbrev pub lowered_as : Option FinalFault → Module → List Path → Result (List ℕ) Fault
lowered_as None last marks = Ok (canonical_text (loops_of last marks))
lowered_as (Some fault) last marks = Err (final_fault_of fault)

-- the text of the last version of a script's steps, with its final lines and marks
abbrev pub staged_as : Result Module StepFault → Script → Result (List ℕ) Fault
staged_as (Ok last) schedule = lowered_as (final_fault last schedule.finals schedule.parallel) last schedule.parallel
staged_as (Err fault) schedule = Err (step_fault_of fault)

-- the text of a run, or its fault
abbrev pub ran_as : Result (List ℕ) RunFault → Result (List ℕ) Fault
ran_as (Ok text) = Ok text
ran_as (Err fault) = Err (run_fault_of fault)

-- what running this program of a module tells
abbrev pub errand_run : Errand → Module → Prog → Result (List ℕ) RunFault
errand_run (OnText given) m program = version_run m program given
errand_run (OfTrial steps) m program = trial_run steps m program

-- what is due of a last version that keeps the rules of the final form, or the first that it breaks
abbrev pub unless_broken : Option FinalFault → Result (List ℕ) Fault → Result (List ℕ) Fault
unless_broken None due = due
unless_broken (Some fault) due = Err (final_fault_of fault)

-- what is due of the last version of a script's steps, or the first fault
abbrev pub left_as : Result Module StepFault → Script → (Module → Result (List ℕ) Fault) → Result (List ℕ) Fault
left_as (Ok last) schedule due = unless_broken (final_fault last schedule.finals schedule.parallel) (due last)
left_as (Err fault) schedule due = Err (step_fault_of fault)

-- what a run of the loops of a last version with these marks tells
abbrev pub loops_run : Errand → List Path → Module → Result (List ℕ) Fault
loops_run errand marks last = ran_as (errand_run errand last (loops_of last marks))

-- the text of all versions of a script's steps
abbrev pub versions_as : Result (List Module) StepFault → Result (List ℕ) Fault
versions_as (Ok versions) = Ok (stages versions)
versions_as (Err fault) = Err (step_fault_of fault)

-- whether the fault is that of a condition or of a goal that is not shown
abbrev pub is_unshown : Fault → Bool
is_unshown fault = fault.number == 25 || (fault.number == 31 || fault.number == 33)

-- a text, wherever nothing but a condition or a goal that is not shown stands against the verdict
abbrev pub unless_unshown : Result (List ℕ) Fault → List ℕ → Result (List ℕ) Fault
unless_unshown (Ok accepted) text = Ok text
unless_unshown (Err fault) text = if is_unshown fault then Ok text else Err fault

-- what is made of an admitted module and a script
abbrev pub emitted_as : Asked → Module → Script → Result (List ℕ) Fault
emitted_as Loops origin schedule = staged_as (last_version_of origin schedule.steps) schedule
emitted_as Versions origin schedule = versions_as (versions_of origin schedule.steps)
emitted_as Facts origin schedule = unless_unshown (staged_as (last_version_of origin schedule.steps) schedule) (facts_text origin schedule)
emitted_as (Run errand) origin schedule = left_as (last_version_of origin schedule.steps) schedule (loops_run errand schedule.parallel)

-- the text of an admitted module under a script
abbrev pub scheduled_as : Asked → Result Script ScriptFault → Module → Result (List ℕ) Fault
scheduled_as emit (Ok schedule) origin = emitted_as emit origin schedule
scheduled_as emit (Err fault) origin = Err (script_fault_of fault)

-- the script without steps
abbrev pub no_steps : Script
no_steps = record { steps = []; finals = []; parallel = [] }

-- the script of a text; no text is that of the script without steps
abbrev pub script_of : Option (List ℕ) → Result Script ScriptFault
script_of None = Ok no_steps
script_of (Some text) = read_bytes text

-- the text of a module with this verdict
abbrev pub judged_as : Asked → Option AdmissionFault → Module → Option (List ℕ) → Result (List ℕ) Fault
judged_as emit None origin text = scheduled_as emit (script_of text) origin
judged_as emit (Some fault) origin text = Err (admission_fault_of fault)

-- the text of a module that was read, or its first fault: of the shapes, the extents, the example; of the script, of its steps in order; where loops, facts
-- or a run are asked for, of the final form of the last version; where a run is, of the given text, of its sizes, of the run
unfoldable pub module_compiled : Asked → Module → Option (List ℕ) → Result (List ℕ) Fault
module_compiled emit origin text = judged_as emit (admission_fault origin) origin text

abbrev pub compiled_as : Asked → Result Module ReadFault → Option (List ℕ) → Result (List ℕ) Fault
compiled_as emit (Ok origin) text = module_compiled emit origin text
compiled_as emit (Err fault) text = Err (fault_of fault)

-- the refusal tells this fault, or that memory did not suffice
abbrev pub TellsFault : Fault → CompileRefusal → Type 0
TellsFault fault (Refused told) = told ≡ fault
TellsFault fault Memory = ⊤

-- the refusal tells what was found in the text, or that memory did not suffice
abbrev pub Tells : ReadFault → CompileRefusal → Type 0
Tells fault (Refused told) = (told ≡ fault_of fault) × (fault ≢ read.Memory)
Tells fault Memory = ⊤

-- the refusal tells what was found in the module, or that memory did not suffice
abbrev pub TellsAdmission : AdmissionFault → CompileRefusal → Type 0
TellsAdmission fault (Refused told) = (told ≡ admission_fault_of fault) × (fault ≢ admission.Memory)
TellsAdmission fault Memory = ⊤

-- the refusal tells what was found in a module that may not be lowered, or that memory did not suffice
abbrev pub TellsFinal : FinalFault → CompileRefusal → Type 0
TellsFinal fault (Refused told) = (told ≡ final_fault_of fault) × (fault ≢ final.Memory)
TellsFinal fault Memory = ⊤

-- the refusal tells what was found in the script, or that memory did not suffice
abbrev pub TellsScript : ScriptFault → CompileRefusal → Type 0
TellsScript fault (Refused told) = (told ≡ script_fault_of fault) × (fault ≢ script.Memory)
TellsScript fault Memory = ⊤

-- the refusal tells what was found in executing a C text, or that memory did not suffice
abbrev pub TellsExec : ExecFault → CompileRefusal → Type 0
TellsExec fault (Refused told) = (told ≡ exec_fault_of fault) × (fault ≢ exec.Run run.Memory)
TellsExec fault Memory = ⊤

-- the refusal tells what was found in a run, or that memory did not suffice
abbrev pub TellsRun : RunFault → CompileRefusal → Type 0
TellsRun fault (Refused told) = (told ≡ run_fault_of fault) × (fault ≢ run.Memory)
TellsRun fault Memory = ⊤

-- the refusal tells what was found by the plain evaluator, or that memory did not suffice
abbrev pub TellsPlain : PlainFault → CompileRefusal → Type 0
TellsPlain fault (Refused told) = (told ≡ plain_fault_of fault) × (fault ≢ plain.Memory)
TellsPlain fault Memory = ⊤

-- the refusal tells which step fails and why, or that memory did not suffice
abbrev pub TellsStep : StepFault → CompileRefusal → Type 0
TellsStep fault (Refused told) = (told ≡ step_fault_of fault) × (fault.kind ≢ step.Memory)
TellsStep fault Memory = ⊤

-- the text of a source under a script, where there is one, or the first fault
unfoldable pub compiled : Asked → List ℕ → Option (List ℕ) → Result (List ℕ) Fault
compiled emit source text = compiled_as emit (read_source source) text

-- what the plain evaluator tells, or its fault
abbrev pub plainly_as : Result (List ℕ) PlainFault → Result (List ℕ) Fault
plainly_as (Ok text) = Ok text
plainly_as (Err fault) = Err (plain_fault_of fault)

-- what it tells of a source that is read
abbrev pub read_plainly : Result Module ReadFault → List ℕ → Result (List ℕ) Fault
read_plainly (Ok origin) given = plainly_as (plain_run origin given)
read_plainly (Err fault) given = Err (fault_of fault)

-- what is due once there is a C text, or the fault in its place
abbrev pub once_accepted : Result (List ℕ) Fault → Result (List ℕ) Fault → Result (List ℕ) Fault
once_accepted (Ok text) due = due
once_accepted (Err fault) due = Err fault

-- what the plain evaluator tells of a source that is accepted under a script, or the first fault: of the verdict, of the given text, of its sizes, of the work
unfoldable pub plainly : List ℕ → List ℕ → List ℕ → Result (List ℕ) Fault
plainly source script given = once_accepted (compiled Loops source (Some script)) (read_plainly (read_source source) given)

-- the first content, which a form with a file has
abbrev pub first_content : List (List ℕ) → List ℕ
first_content [] = []
first_content (content ∷ contents) = content

-- the second content, where a form has two files
abbrev pub second_content : List (List ℕ) → Option (List ℕ)
second_content [] = None
second_content (first ∷ []) = None
second_content (first ∷ second ∷ contents) = Some second

-- the same, which a form with two files has
abbrev pub script_content : List (List ℕ) → List ℕ
script_content [] = []
script_content (first ∷ []) = []
script_content (first ∷ second ∷ contents) = second

-- the third content, which a form with three files has
abbrev pub given_content : List (List ℕ) → List ℕ
given_content [] = []
given_content (first ∷ []) = []
given_content (first ∷ second ∷ []) = []
given_content (first ∷ second ∷ third ∷ contents) = third

-- the text for these contents, or their first fault
unfoldable pub decided : Verb → List (List ℕ) → Result (List ℕ) Fault
decided Compile contents = compiled Loops (first_content contents) (second_content contents)
decided Stages contents = compiled Versions (first_content contents) (Some (script_content contents))
decided FactsOf contents = compiled Facts (first_content contents) (Some (script_content contents))
decided RunOf contents = compiled (Run (OnText (given_content contents))) (first_content contents) (Some (script_content contents))
decided Plain contents = plainly (first_content contents) (script_content contents) (given_content contents)
decided Exec contents = executed_as (exec_answer (first_content contents) (script_content contents))
decided (Trial steps) contents = compiled (Run (OfTrial steps)) (trial_source steps) (Some (trial_script steps))

module _ {A : Type 0} where
  -- the answer is the wanted one, or memory did not suffice
  abbrev pub Answers : Result (List ℕ) Fault → Result (Vec ℕ A) CompileRefusal → Type 0
  Answers wanted (Ok text) = wanted ≡ Ok text.items
  Answers wanted (Err (Refused fault)) = wanted ≡ Err fault
  Answers wanted (Err Memory) = ⊤
