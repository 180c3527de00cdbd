-- From what a run of a last version's loops says to what the driver says.
use Rattle.std.proofs.Common.{◌≡◌, ◌≢◌, ◌∙◌, inl, inr, ℕ, List, [], ◌∷◌, length, map, refl, ap, sym, subst, IfErr, IfOk, Ok, Err, Some, None, arith}
use Rattle.std.specs.Prelude.{IsErrOf}
use Rattle.std.specs.declared.option.Option.{Option}
use Rattle.std.specs.declared.result.Result.{Result}
use Rattle.std.specs.declared.vec.Vec.{Vec}
use Rattle.admission.specs.Admission.{broken}
use Rattle.atl_printer.specs.PrintableModule.{AreBounded as ArePrinted}
use Rattle.final_rules.specs.Rules.{final_fault}
use Rattle.final_rules.specs.declared.fault.FinalFault.{FinalFault}
use Rattle.final_rules.specs.declared.fault.FinalFault.TheVariants as final
use Rattle.final_verdict.specs.Verdict.{Tells as Refuses}
use Rattle.given_text.specs.Given.{GivenText}
use Rattle.linear_cert.specs.declared.lines.FinalLine.{FinalLine}
use Rattle.loop_lang.specs.Actions.{program_acts}
use Rattle.loop_lang.specs.Run.{counts_of}
use Rattle.loop_lang.specs.declared.stmt.Prog.{Prog}
use Rattle.loop_run.specs.declared.refusal.Stuck.{Stuck}
use Rattle.loop_run.specs.declared.refusal.Stuck.TheVariants as stuck
use Rattle.ended_runs.specs.Ended.{IsOfWork}
use Rattle.lowering_laws.specs.Lowered.{loops_of}
use Rattle.run_text.specs.GivenRun.{IsRunFault, Names}
use Rattle.run_text.specs.Outputs.{run_text}
use Rattle.run_text.specs.Told.{Answers as Runs}
use Rattle.run_text.specs.declared.fault.RunFault.{RunFault}
use Rattle.run_text.specs.declared.fault.RunFault.TheVariants as run
use Rattle.schedule_run.specs.Versions.{IsRefused, IsVersion, last_version_of}
use Rattle.schedule_run.specs.declared.fault.StepFault.{StepFault}
use Rattle.schedule_script.specs.declared.tree.Script.{Script}
use Rattle.source_grammar.specs.Source.{input_names, output_names, size_names}
use Rattle.term_tree.specs.Modules.{AreInputs}
use Rattle.term_tree.specs.Shaped.{flat}
use Rattle.term_tree.specs.declared.term.InputDecl.{InputDecl}
use Rattle.term_tree.specs.declared.term.Module.{Module}
use Rattle.term_tree.specs.declared.term.Path.{Path}
use Rattle.term_tree.specs.declared.term.SizeDecl.{SizeDecl}
use Rattle.trial_run.specs.TrialRun.{IsTrialOf, line_of}
use Rattle.trial_text.specs.TrialText.{trial_given}
use Rattle.version_run.specs.VersionRun.{AreBounded, IsDenoted, IsVersionFault, names_of}
use Rattle.atl_driver.specs.Asked.{Errand, OfTrial, OnText, Run, given_to}
use Rattle.atl_driver.specs.Compile.{Answers, TellsFinal, TellsRun, TellsStep, errand_run, final_fault_of, left_as, loops_run, ran_as, run_fault_of}
use Rattle.atl_driver.specs.Compile.{unless_broken}
use Rattle.atl_driver.specs.Correct.{IsLeft, IsToldOf, IsUnemitted, IsUnran}
use Rattle.atl_driver.specs.declared.compile.CompileRefusal.{CompileRefusal}
use Rattle.atl_driver.specs.declared.compile.CompileRefusal.TheVariants.{Refused, Memory}
use Rattle.atl_driver.specs.declared.fault.Fault.{Fault}
use Rattle.atl_driver.proofs.ScheduleLaws.{failing, version_allowed_there, version_inputs, version_sizes}

-- sizes that print stay far below 2^63
pub bounded_sizes : (ds : List SizeDecl) → ArePrinted ds → AreBounded ds
bounded_sizes [] h = tt
bounded_sizes (d ∷ ds) h = (omega (arith, h.0.1), bounded_sizes ds h.1)

pub bounded_version : (m v : Module) → IsVersion m v → ArePrinted m.sizes → AreBounded v.sizes
bounded_version m v is h = subst AreBounded (sym (version_sizes m v is)) (bounded_sizes m.sizes h)

-- the program has the module's inputs
pub loops_inputs : (m : Module) (marks : List Path) (p : Prog) → p ≡ loops_of m marks → p.inputs ≡ length m.inputs
unfolding loops_of
loops_inputs m marks p h = ap (λ (x : Prog). x.inputs) h

-- ---- the version's answers, as the module's

module _ (m v : Module) (is : IsVersion m v) where
  names_are : names_of v ≡ names_of m
  names_are =
      let sizes = version_sizes m v is in
      let inputs = version_inputs m v is in
      λ i. record { sizes = size_names (sizes i); inputs = input_names (inputs i); outputs = is.names i }

  broken_is : broken v ≡ broken m
  broken_is = ap broken is.others

  denoted_there : (p : Prog) (z text : List ℕ) → IsDenoted v p z text → IsDenoted m p z text
  denoted_there p z text d =
      let allowed = version_allowed_there m v is d.gives.sizes d.allowed in
      let are = subst (λ (ds : List InputDecl). AreInputs ds d.gives.sizes d.inputs) (version_inputs m v is) d.are in
      let meaning = is.meaning d.gives.sizes allowed d.inputs are in
      let names : output_names v.outputs ≡ output_names m.outputs = is.names in
      record {
        gives = d.gives;
        reads = subst (λ (n : Names). GivenText n.sizes n.inputs z d.gives) names_are d.reads;
        allowed = allowed;
        inputs = d.inputs;
        are = are;
        words = d.words;
        tells = d.tells ∙ (λ i. run_text (names i) (map flat (meaning i)) (counts_of (program_acts p d.gives.sizes)).stores);
      }

  trial_there : (k : ℕ) (p : Prog) (text : List ℕ) → IsTrialOf k v p v text → IsTrialOf k v p m text
  trial_there k p text d =
      let allowed = version_allowed_there m v is d.gives.sizes d.allowed in
      let are = subst (λ (ds : List InputDecl). AreInputs ds d.gives.sizes d.inputs) (version_inputs m v is) d.are in
      let meaning = is.meaning d.gives.sizes allowed d.inputs are in
      record {
        gives = d.gives;
        reads = subst (λ (n : Names). GivenText n.sizes n.inputs trial_given d.gives) names_are d.reads;
        allowed = allowed;
        inputs = d.inputs;
        are = are;
        words = d.words;
        tells = d.tells ∙ (λ i. line_of k v p (map flat (meaning i)) (counts_of (program_acts p d.gives.sizes)).stores);
      }

  told_there : (e : Errand) (p : Prog) (text : List ℕ) → IsToldOf e v p v text → IsToldOf e v p m text
  told_there (OnText z) p text d = denoted_there p z text d
  told_there (OfTrial k) p text d = trial_there k p text d

  fault_there : (p : Prog) (z : List ℕ) (k : RunFault) → IsVersionFault v p z k → IsVersionFault m p z k
  fault_there p z k h =
      subst (λ (n : Names). IsRunFault n (broken m) p z k) names_are (subst (λ (b : List ℕ → Option ℕ). IsRunFault (names_of v) b p z k) broken_is h)

  unran_there : (p : Prog) (z : List ℕ) (fault : Fault) → IsUnran v p z fault → IsUnran m p z fault
  unran_there p z fault u = record { cause = u.cause; told = u.told; is_cause = fault_there p z u.cause u.is_cause; fails = u.fails; ends = u.ends }

-- ---- a program's run

module _ {A : Type 0} (d e : Errand) (m : Module) (p : Prog) (r : Result (Vec ℕ A) RunFault) (is : d ≡ e) where
  pub errand_answers : Runs (errand_run e m p) r → Runs (errand_run d m p) r
  errand_answers h = subst (λ (x : Errand). Runs (errand_run x m p) r) (sym is) h

  pub errand_told : IfOk r (λ text. IsToldOf e m p m text.items) → IfOk r (λ text. IsToldOf d m p m text.items)
  errand_told h = subst (λ (x : Errand). IfOk r (λ text. IsToldOf x m p m text.items)) (sym is) h

  pub errand_refused : IfErr r (λ fault. IsVersionFault m p (given_to e) fault) → IfErr r (λ fault. IsVersionFault m p (given_to d) fault)
  errand_refused h = subst (λ (x : Errand). IfErr r (λ fault. IsVersionFault m p (given_to x) fault)) (sym is) h

due : (A : Type 0) (want : Result (List ℕ) RunFault) (k : RunFault) → Runs {A = A} want (Err k) → k ≢ run.Memory → want ≡ Err k
due A want (run.BadData at) h n = h
due A want (run.SizesNotAllowed constraint) h n = h
due A want (run.Stuck s) h n = h
due A want (run.TooBigToRun words) h n = h
due A want (run.WrongCount i w g) h n = h
due A want run.Memory h n = absurd (n refl)

abbrev as_error : Fault → Result (List ℕ) Fault
as_error fault = Err fault

-- a fault that is told of a run that is not stuck has another number
never_stuck : (k : RunFault) → ((why : Stuck) → k ≡ run.Stuck why → IsOfWork why) → (run_fault_of k).number ≡ 51 → ⊥
never_stuck (run.BadData at) h e = absurd (omega (arith, e))
never_stuck (run.SizesNotAllowed constraint) h e = absurd (omega (arith, e))
never_stuck (run.TooBigToRun words) h e = absurd (omega (arith, e))
never_stuck (run.WrongCount i w g) h e = absurd (omega (arith, e))
never_stuck run.Memory h e = absurd (omega (arith, e))
never_stuck (run.Stuck (stuck.TooMuchWork steps)) h e = absurd (omega (arith, e))
never_stuck (run.Stuck (stuck.Outside b i)) h e = h (stuck.Outside b i) refl
never_stuck (run.Stuck stuck.Overflow) h e = h stuck.Overflow refl
never_stuck (run.Stuck stuck.NegativeDividend) h e = h stuck.NegativeDividend refl

module _ (A : Type 0) where
  pub answers_unran : (want : Result (List ℕ) RunFault) (k : RunFault) (refusal : CompileRefusal) → Runs {A = A} want (Err k) → TellsRun k refusal
      → Answers {A = A} (ran_as want) (Err refusal)
  answers_unran want k Memory h tells = tt
  answers_unran want k (Refused told) h tells = ap ran_as (due A want k h tells.1) ∙ ap as_error (sym tells.0)

  pub refused_unran : (m : Module) (p : Prog) (z : List ℕ) (k : RunFault) (refusal : CompileRefusal)
      → ((why : Stuck) → IsVersionFault m p z (run.Stuck why) → IsOfWork why) → IsVersionFault m p z k → TellsRun k refusal
      → (told : Fault) → IsErrOf {T = Vec ℕ A} (Err refusal) (Refused told) → IsUnran m p z told
  refused_unran m p z k Memory work is_cause tells told is = absurd (cc)
  refused_unran m p z k (Refused found) work is_cause tells told is =
      let same : found ≡ told = cc in
      let tells_it : told ≡ run_fault_of k = sym same ∙ tells.0 in
      record {
        cause = k;
        told = tells_it;
        is_cause = is_cause;
        fails = tells.1;
        ends = λ e. never_stuck k (λ why at. work why (subst (IsVersionFault m p z) at is_cause)) (ap (λ (f : Fault). f.number) (sym tells_it) ∙ e);
      }

module _ {A : Type 0} (e : Errand) (n m : Module) (p q : Prog) (r : Result (Vec ℕ A) CompileRefusal) (is : n ≡ m) (same : p ≡ q) where
  pub of_program_answers : Answers (ran_as (errand_run e n p)) r → Answers (ran_as (errand_run e m q)) r
  of_program_answers h =
      subst (λ (x : Module). Answers (ran_as (errand_run e x q)) r) is (subst (λ (x : Prog). Answers (ran_as (errand_run e n x)) r) same h)

  pub of_program_told : IfOk r (λ text. IsToldOf e n p n text.items) → IfOk r (λ text. IsToldOf e m q m text.items)
  of_program_told h =
      subst (λ (x : Module). IfOk r (λ text. IsToldOf e x q x text.items)) is
      (subst (λ (x : Prog). IfOk r (λ text. IsToldOf e n x n text.items)) same h)

  pub of_program_refused : ((fault : Fault) → IsErrOf r (Refused fault) → IsUnran n p (given_to e) fault) → (fault : Fault) → IsErrOf r (Refused fault)
      → IsUnran m q (given_to e) fault
  of_program_refused h fault told =
      subst (λ (x : Module). IsUnran x q (given_to e) fault) is (subst (λ (x : Prog). IsUnran n x (given_to e) fault) same (h fault told))

-- ---- a last version

module _ {A : Type 0} (f : Module × List FinalLine × List Path) (m : Module) (fs : List FinalLine) (marks : List Path) (e : Errand)
    (r : Result (Vec ℕ A) CompileRefusal) (same : f ≡ (m, fs, marks)) where
  pub last_answers : final_fault m fs marks ≡ None → Answers (loops_run e f.2 f.0) r → Answers (unless_broken (final_fault m fs marks) (loops_run e marks m)) r
  last_answers accepted h =
      subst (λ (o : Option FinalFault). Answers (unless_broken o (loops_run e marks m)) r) (sym accepted)
      (subst (λ (g : Module × List FinalLine × List Path). Answers (loops_run e g.2 g.0) r) same h)

  pub last_told : IfOk r (λ text. IsToldOf e f.0 (loops_of f.0 f.2) f.0 text.items) → IfOk r (λ text. IsToldOf e m (loops_of m marks) m text.items)
  last_told h =
      subst (λ (g : Module × List FinalLine × List Path). IfOk r (λ text. IsToldOf e g.0 (loops_of g.0 g.2) g.0 text.items)) same h

  pub last_refused : ((fault : Fault) → IsErrOf r (Refused fault) → IsUnran f.0 (loops_of f.0 f.2) (given_to e) fault) → (fault : Fault)
      → IsErrOf r (Refused fault) → IsUnran m (loops_of m marks) (given_to e) fault
  last_refused h fault is =
      subst (λ (g : Module × List FinalLine × List Path). IsUnran g.0 (loops_of g.0 g.2) (given_to e) fault) same (h fault is)

pub last_accepted : {A : Type 0} (r : Result (Vec ℕ A) CompileRefusal) (o : Option FinalFault) → o ≡ None → IfOk r (λ _. o ≡ None)
last_accepted (Ok text) o h = h
last_accepted (Err e) o h = tt

first_broken : (o : Option FinalFault) (fault : FinalFault) → Refuses o fault → fault ≢ final.Memory → o ≡ Some fault
first_broken o (final.NotLowerable path) h n = h
first_broken o (final.NoSuchGoal line) h n = h
first_broken o (final.AccessNotShown goal) h n = h
first_broken o (final.DropNotShown goal) h n = h
first_broken o (final.IndexTooLarge index) h n = h
first_broken o (final.ParallelNotGen path) h n = h
first_broken o (final.LetInParallel path) h n = h
first_broken o (final.NestedParallel path) h n = h
first_broken o final.Memory h n = absurd (n refl)

-- of a last version that breaks a rule
pub unlowerable_left : (A : Type 0) (o : Option FinalFault) (want : Result (List ℕ) Fault) (fault : FinalFault) (refusal : CompileRefusal)
    → Refuses o fault → TellsFinal fault refusal → Answers {A = A} (unless_broken o want) (Err refusal)
unlowerable_left A o want fault Memory refuses tells = tt
unlowerable_left A o want fault (Refused told) refuses tells =
    ap (λ (x : Option FinalFault). unless_broken x want) (first_broken o fault refuses tells.1) ∙ ap as_error (sym tells.0)

pub unlowerable_unran : (A P : Type 0) (o : Option FinalFault) (fault : FinalFault) (refusal : CompileRefusal) → Refuses o fault → TellsFinal fault refusal
    → (told : Fault) → IsErrOf {T = Vec ℕ A} (Err refusal) (Refused told) → o ≡ None → P
unlowerable_unran A P o fault Memory refuses tells told is accepted = absurd (cc)
unlowerable_unran A P o fault (Refused found) refuses tells told is accepted =
    let broken : o ≡ Some fault = first_broken o fault refuses tells.1 in absurd (cc)

-- ---- a schedule

module _ {A : Type 0} (m last : Module) (s : Script) (fs : List FinalLine) (marks : List Path) (e : Errand) (r : Result (Vec ℕ A) CompileRefusal)
    (at : last_version_of m s.steps ≡ Ok last) (is : IsVersion m last) (lines : fs ≡ s.finals) (marked : marks ≡ s.parallel) where
  pub left_answers : Answers (unless_broken (final_fault last fs marks) (loops_run e marks last)) r
      → Answers (left_as (last_version_of m s.steps) s (loops_run e s.parallel)) r
  left_answers h =
      let marks_of = subst (λ (ps : List Path). Answers (unless_broken (final_fault last fs ps) (loops_run e ps last)) r) marked h in
      let all_of = subst (λ (gs : List FinalLine). Answers (unless_broken (final_fault last gs s.parallel) (loops_run e s.parallel last)) r) lines marks_of in
      subst (λ (o : Result Module StepFault). Answers (left_as o s (loops_run e s.parallel)) r) (sym at) all_of

  here : (o : Result (Vec ℕ A) CompileRefusal) → IfOk o (λ _. final_fault last s.finals s.parallel ≡ None)
      → IfOk o (λ text. IsToldOf e last (loops_of last s.parallel) last text.items) → IfOk o (λ text. IsLeft m s e text.items)
  here (Ok text) a d = record {
    last = last;
    steps = at;
    version = is;
    accepted = a;
    told = told_there m last is e (loops_of last s.parallel) text.items d;
  }
  here (Err refusal) a d = tt

  pub left_told : IfOk r (λ _. final_fault last fs marks ≡ None) → IfOk r (λ text. IsToldOf e last (loops_of last marks) last text.items)
      → IfOk r (λ text. IsLeft m s e text.items)
  left_told a d =
      let accepted = subst (λ (gs : List FinalLine). IfOk r (λ _. final_fault last gs s.parallel ≡ None)) lines
      (subst (λ (ps : List Path). IfOk r (λ _. final_fault last fs ps ≡ None)) marked a) in
      here r accepted (subst (λ (ps : List Path). IfOk r (λ text. IsToldOf e last (loops_of last ps) last text.items)) marked d)

  by_form : (o : Option FinalFault) → final_fault last s.finals s.parallel ≡ o → Answers (left_as (last_version_of m s.steps) s (loops_run e s.parallel)) r
      → (final_fault last s.finals s.parallel ≡ None → (fault : Fault) → IsErrOf r (Refused fault)
      → IsUnran last (loops_of last s.parallel) (given_to e) fault)
      → (fault : Fault) → IsErrOf r (Refused fault) → IsUnemitted (Run e) m s fault
  by_form None f h cause fault told = inr (record {
    last = last;
    steps = at;
    accepted = f;
    unran = unran_there m last is (loops_of last s.parallel) (given_to e) fault (cause f fault told);
  })
  by_form (Some broke) f h cause fault told =
      let all = subst (λ (x : Result Module StepFault). Answers (left_as x s (loops_run e s.parallel)) r) at h in
      let one = subst (λ (x : Option FinalFault). Answers (unless_broken x (loops_run e s.parallel last)) r) f all in
      let same = broken_told r one fault told in
      inl (inr (record { last = last; steps = at; broken = broke; first = f; told = same }))
    where
      broken_told : (o : Result (Vec ℕ A) CompileRefusal) → Answers (as_error (final_fault_of broke)) o → (fault : Fault) → IsErrOf o (Refused fault)
          → fault ≡ final_fault_of broke
      broken_told (Ok text) h fault is = absurd (cc)
      broken_told (Err Memory) h fault is = absurd (cc)
      broken_told (Err (Refused found)) h fault is = let same : found ≡ fault = cc in let due : final_fault_of broke ≡ found = cc in sym same ∙ sym due

  pub left_refused : Answers (unless_broken (final_fault last fs marks) (loops_run e marks last)) r
      → ((fault : Fault) → IsErrOf r (Refused fault) → final_fault last fs marks ≡ None → IsUnran last (loops_of last marks) (given_to e) fault)
      → (fault : Fault) → IsErrOf r (Refused fault) → IsUnemitted (Run e) m s fault
  left_refused h cause fault told =
      by_form (final_fault last s.finals s.parallel) refl (left_answers h) (λ f fault told.
      subst (λ (ps : List Path). IsUnran last (loops_of last ps) (given_to e) fault) marked (cause fault told
      (ap (λ (gs : List FinalLine). final_fault last gs marks) lines ∙ ap (λ (ps : List Path). final_fault last s.finals ps) marked ∙ f))) fault told

-- of a step that fails
pub unstaged_left : (A : Type 0) (m : Module) (s : Script) (e : Errand) (fault : StepFault) (refusal : CompileRefusal)
    → IsRefused (last_version_of m s.steps) fault fault.kind → TellsStep fault refusal
    → Answers {A = A} (left_as (last_version_of m s.steps) s (loops_run e s.parallel)) (Err refusal)
unstaged_left A m s e fault Memory refused tells = tt
unstaged_left A m s e fault (Refused told) refused tells =
    ap (λ (o : Result Module StepFault). left_as o s (loops_run e s.parallel)) (failing (last_version_of m s.steps) fault fault.kind refused tells.1)
    ∙ ap as_error (sym tells.0)

pub refused_unstaged : (A : Type 0) (m : Module) (s : Script) (e : Errand) (fault : StepFault) (refusal : CompileRefusal)
    → IsRefused (last_version_of m s.steps) fault fault.kind → TellsStep fault refusal → (told : Fault) → IsErrOf {T = Vec ℕ A} (Err refusal) (Refused told)
    → IsUnemitted (Run e) m s told
refused_unstaged A m s e fault Memory refused tells told is = absurd (cc)
refused_unstaged A m s e fault (Refused found) refused tells told is =
    let same : found ≡ told = cc in
    inl (inl (record { failing = fault; first = failing (last_version_of m s.steps) fault fault.kind refused tells.1; told = sym same ∙ tells.0 }))
