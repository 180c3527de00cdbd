-- From what the reader of scripts and the versions say to what the compiler says.
use Rattle.std.proofs.Common.{◌≡◌, ◌≢◌, ◌⊎◌, inl, inr, ℕ, suc, List, [], ◌∷◌, length, map, refl, ap, sym, subst, ◌∙◌, IfErr, IfOk, MatchResult, Ok, Err, Some}
use Rattle.std.proofs.Common.{None, arith}
use Rattle.std.specs.Prelude.{All, IsErrOf}
use Rattle.std.specs.declared.option.Option.{Option}
use Rattle.std.specs.declared.result.Result.{Result}
use Rattle.std.specs.declared.vec.Vec.{Vec}
use Rattle.affine_index.specs.Condition.{all_hold}
use Rattle.affine_index.specs.declared.cond.Cmp.{Cmp}
use Rattle.linear_cert.specs.declared.lines.FinalLine.{FinalLine}
use Rattle.term_tree.specs.declared.term.InputDecl.{InputDecl}
use Rattle.term_tree.specs.declared.term.Module.{Module}
use Rattle.term_tree.specs.declared.term.OutputDecl.{OutputDecl}
use Rattle.term_tree.specs.declared.term.Path.{Path}
use Rattle.term_tree.specs.declared.term.SizeDecl.{SizeDecl}
use Rattle.term_tree.specs.Modules.{Allowed, AreInputs, IsWithin}
use Rattle.term_tree.specs.Shaped.{flat}
use Rattle.term_tree.specs.Tensors.{Tensor}
use Rattle.loop_lang.specs.declared.stmt.Prog.{Prog}
use Rattle.final_rules.specs.Rules.{final_fault}
use Rattle.final_rules.specs.declared.fault.FinalFault.{FinalFault}
use Rattle.lowering_laws.specs.Correct.{IsCorrect}
use Rattle.schedule_script.specs.Script.{IsRefusedText, ScriptText}
use Rattle.schedule_script.specs.Script.{Answers as Reads}
use Rattle.schedule_script.specs.declared.fault.ScriptFault.{ScriptFault}
use Rattle.schedule_script.specs.declared.fault.ScriptFault.TheVariants as script
use Rattle.schedule_script.specs.declared.tree.Script.{Script}
use Rattle.schedule_run.specs.Versions.{IsRefused, IsVersion, last_version_of, versions_of}
use Rattle.stages_text.specs.Stages.{AreBlocks, stages}
use Rattle.schedule_run.specs.declared.fault.StepFault.{StepFault}
use Rattle.schedule_run.specs.declared.fault.StepKind.{StepKind}
use Rattle.schedule_run.specs.declared.fault.StepKind.TheVariants as step
use Rattle.atl_driver.specs.Compile.{Answers, TellsScript, TellsStep, final_fault_of, lowered_as, scheduled_as, script_fault_of, script_of, staged_as}
use Rattle.atl_driver.specs.Compile.{emitted_as, step_fault_of, versions_as}
use Rattle.atl_driver.specs.Correct.{AreLoops, AreVersions, IsEmitted, IsRefusedScript, IsTextUnder, IsScheduled, IsScriptOf, IsUnemitted, IsUnlowerable}
use Rattle.atl_driver.specs.Correct.{IsUnscripted, IsUnstaged}
use Rattle.atl_driver.specs.declared.compile.CompileRefusal.{CompileRefusal}
use Rattle.atl_driver.specs.declared.compile.CompileRefusal.TheVariants.{Refused, Memory}
use Rattle.atl_driver.specs.Asked.{Asked, Loops, Facts}
use Rattle.atl_driver.specs.declared.fault.Fault.{Fault}
use Rattle.facts_run.specs.Claims.{facts_text}
use Rattle.atl_driver.proofs.FactsLaws.{fault_is}
use Rattle.atl_driver.proofs.FirstFailing.{last_fails}
use Rattle.atl_printer.specs.PrintableModule.{IsPrintableModule}
use Rattle.printable_versions.specs.Versions.{IsToldModule}
use Rattle.printable_versions.proofs.Versions.{versions_printable}

named : (os : List OutputDecl) → length (map (λ (o : OutputDecl). o.name) os) ≡ length os
named [] = refl
named (o ∷ os) = ap suc (named os)

none_of : (os : List OutputDecl) → length os ≡ 0 → os ≡ []
none_of [] e = refl
none_of (o ∷ os) e = absurd (omega (arith, e))

module _ (m v : Module) (is : IsVersion m v) where
  pub version_sizes : v.sizes ≡ m.sizes
  version_sizes = ap (λ (x : Module). x.sizes) is.others

  pub version_inputs : v.inputs ≡ m.inputs
  version_inputs = ap (λ (x : Module). x.inputs) is.others

  version_assumes : v.assumes ≡ m.assumes
  version_assumes = ap (λ (x : Module). x.assumes) is.others

  pub version_outputs : length v.outputs ≡ length m.outputs
  version_outputs = sym (named v.outputs) ∙ ap length is.names ∙ named m.outputs

  -- a version has an output where the module has one
  pub version_some : m.outputs ≢ [] → v.outputs ≢ []
  version_some some none =
      some (none_of m.outputs (sym version_outputs ∙ ap (λ (os : List OutputDecl). length os) none))

  version_allowed : (s : List ℕ) → Allowed m s → Allowed v s
  version_allowed s allowed = record {
    within = subst (λ (ds : List SizeDecl). IsWithin ds s) (sym version_sizes) allowed.within;
    assumed = ap (λ (cs : List Cmp). all_hold s [] cs) version_assumes ∙ allowed.assumed;
  }

  pub version_allowed_there : (s : List ℕ) → Allowed v s → Allowed m s
  version_allowed_there s allowed = record {
    within = subst (λ (ds : List SizeDecl). IsWithin ds s) version_sizes allowed.within;
    assumed = ap (λ (cs : List Cmp). all_hold s [] cs) (sym version_assumes) ∙ allowed.assumed;
  }

  -- what is right for a version is right for the module
  pub version_correct : (p : Prog) → IsCorrect v p → IsCorrect m p
  version_correct p correct s allowed inputs are memory is_memory words =
      let leaves = correct s (version_allowed s allowed) inputs (subst (λ (ds : List InputDecl). AreInputs ds s inputs) (sym version_inputs) are) memory
      is_memory words in
      record {
        after = leaves.after;
        runs = leaves.runs;
        outputs = leaves.outputs ∙ ap (λ (ts : List Tensor). map flat ts) (is.meaning s allowed inputs are);
        inputs_kept = leaves.inputs_kept;
      }

-- ---- the script

scripted_is : (z : List ℕ) (schedule : Script) → ScriptText z schedule → ((other : Script) → ScriptText z other → Reads (Ok schedule) (Ok other))
    → IsScriptOf (Some z) schedule
scripted_is z schedule reads only = record { reads = reads; only = λ other is. same other (only other is) }
  where
    same : (other : Script) → Reads (Ok schedule) (Ok other) → other ≡ schedule
    same other h = cc

-- the schedule that is read is the one of the text
pub scripted_of : (z : List ℕ) (o : Option (List ℕ)) (r : Result Script ScriptFault) → o ≡ Some z → IfOk r (λ schedule. ScriptText z schedule)
    → ((other : Script) → ScriptText z other → Reads r (Ok other)) → IfOk r (λ schedule. IsScriptOf o schedule)
scripted_of z o (Ok schedule) e reads only = subst (λ (x : Option (List ℕ)). IsScriptOf x schedule) (sym e) (scripted_is z schedule reads only)
scripted_of z o (Err fault) e reads only = tt

unscripted_is : (z : List ℕ) (fault : ScriptFault) → IsRefusedText z fault → ((other : Script) → ScriptText z other → Reads (Err fault) (Ok other))
    → fault ≢ script.Memory → IsUnscripted (Some z) (script_fault_of fault)
unscripted_is z fault refused only sure = record {
  text = z;
  given = refl;
  cause = fault;
  told = refl;
  is_cause = refused;
  fails = sure;
  none = λ other is. none other (only other is);
}
  where
    none : (other : Script) → Reads (Err fault) (Ok other) → ⊥
    none other h = let e = h sure in absurd (cc)

-- why a text is that of no schedule
pub unscripted_of : (z : List ℕ) (o : Option (List ℕ)) (r : Result Script ScriptFault) → o ≡ Some z → IfErr r (λ fault. IsRefusedText z fault)
    → ((other : Script) → ScriptText z other → Reads r (Ok other))
    → IfErr r (λ fault. fault ≢ script.Memory → IsUnscripted o (script_fault_of fault))
unscripted_of z o (Ok schedule) e refused only = tt
unscripted_of z o (Err fault) e refused only = λ sure.
    subst (λ (x : Option (List ℕ)). IsUnscripted x (script_fault_of fault)) (sym e) (unscripted_is z fault refused only sure)

-- ---- what the parts of the compiler answer

-- versions of a module that is read are printable
pub versions_print : (m : Module) (s : Script) (ms all : List Module) → all ≡ ms → IsPrintableModule m → versions_of m s.steps ≡ Ok ms → All (IsVersion m) ms
    → All IsToldModule all → All IsPrintableModule all
versions_print m s ms all same p e each told =
    subst (All IsPrintableModule) (sym same) (versions_printable m p s.steps ms e each (subst (All IsToldModule) same told))

module _ {A : Type 0} where
  -- of a last version, with these final lines and marks
  pub staged_answers : (m last : Module) (s : Script) (fs : List FinalLine) (marks : List Path) (r : Result (Vec ℕ A) CompileRefusal)
      → last_version_of m s.steps ≡ Ok last → fs ≡ s.finals → marks ≡ s.parallel
      → Answers (lowered_as (final_fault last fs marks) last marks) r → Answers (staged_as (last_version_of m s.steps) s) r
  staged_answers m last s fs marks r e lines marked h =
      let marks_of = subst (λ (ps : List Path). Answers (lowered_as (final_fault last fs ps) last ps) r) marked h in
      let all_of = subst (λ (gs : List FinalLine). Answers (lowered_as (final_fault last gs s.parallel) last s.parallel) r) lines marks_of in
      subst (λ (o : Result Module StepFault). Answers (staged_as o s) r) (sym e) all_of

  pub staged_loops : (m last : Module) (s : Script) (fs : List FinalLine) (marks : List Path) (r : Result (Vec ℕ A) CompileRefusal)
      → last_version_of m s.steps ≡ Ok last → IsVersion m last → fs ≡ s.finals → marks ≡ s.parallel
      → IfOk r (λ text. AreLoops last fs marks text.items) → IfOk r (λ text. IsScheduled m s text.items)
  staged_loops m last s fs marks (Ok text) e version lines marked h =
      let marks_of = subst (λ (ps : List Path). AreLoops last fs ps text.items) marked h in
      let loops = subst (λ (gs : List FinalLine). AreLoops last gs s.parallel text.items) lines marks_of in
      record {
        last = last;
        steps = e;
        version = version;
        loops = loops;
        correct = version_correct m last version loops.program loops.correct;
      }
  staged_loops m last s fs marks (Err e) is version lines marked h = tt

  -- of all versions
  pub versions_answers : (m : Module) (s : Script) (ms all : List Module) (r : Result (Vec ℕ A) CompileRefusal) → all ≡ ms → versions_of m s.steps ≡ Ok ms
      → MatchResult r (λ text. (text.items ≡ stages all) × AreBlocks 0 all text.items) (λ refusal. refusal ≡ Memory)
      → Answers (versions_as (versions_of m s.steps)) r
  versions_answers m s ms all (Ok text) same e h = ap versions_as e ∙ ap (λ (xs : List Module). Ok (stages xs)) (sym same) ∙ ap (λ (t : List ℕ). Ok t) (sym h.0)
  versions_answers m s ms all (Err (Refused fault)) same e h = absurd (cc)
  versions_answers m s ms all (Err Memory) same e h = tt

  pub versions_read : (m : Module) (s : Script) (ms all : List Module) (r : Result (Vec ℕ A) CompileRefusal) → all ≡ ms → versions_of m s.steps ≡ Ok ms
      → All (IsVersion m) ms → MatchResult r (λ text. (text.items ≡ stages all) × AreBlocks 0 all text.items) (λ refusal. refusal ≡ Memory)
      → IfOk r (λ text. AreVersions m s text.items)
  versions_read m s ms all (Ok text) same e each h =
      record { versions = ms; steps = e; each = each; blocks = subst (λ (xs : List Module). AreBlocks 0 xs text.items) same h.1 }
  versions_read m s ms all (Err refusal) same e each h = tt

  -- of a script that is read
  pub scheduled_answers : (emit : Asked) (m : Module) (o : Option (List ℕ)) (s : Script) (r : Result (Vec ℕ A) CompileRefusal) → Reads (Ok s) (script_of o)
      → Answers (emitted_as emit m s) r → Answers (scheduled_as emit (script_of o) m) r
  scheduled_answers emit m o s r e h = subst (λ (read : Result Script ScriptFault). Answers (scheduled_as emit read m) r) (sym e) h

  pub scheduled_under : (emit : Asked) (m : Module) (o : Option (List ℕ)) (s : Script) (r : Result (Vec ℕ A) CompileRefusal) → IsScriptOf o s
      → IfOk r (λ text. IsEmitted emit m s text.items) → IfOk r (λ text. IsTextUnder emit m o text.items)
  scheduled_under emit m o s (Ok text) reads h = record { schedule = s; reads = reads; scheduled = h }
  scheduled_under emit m o s (Err e) reads h = tt

  -- the cause of a fault under a schedule
  refused_staged : (m : Module) (s : Script) (r : Result (Vec ℕ A) CompileRefusal) → Answers (staged_as (last_version_of m s.steps) s) r
      → (fault : Fault) → IsErrOf r (Refused fault) → IsUnstaged m s fault ⊎ IsUnlowerable m s fault
  refused_staged m s (Ok text) h fault is = absurd (cc)
  refused_staged m s (Err Memory) h fault is = absurd (cc)
  refused_staged m s (Err (Refused told)) h fault is =
      let same : told ≡ fault = cc in
      by (last_version_of m s.steps) refl (h ∙ ap (λ (f : Fault). Err f) same)
    where
      by_form : (last : Module) → last_version_of m s.steps ≡ Ok last → (o : Option FinalFault) → final_fault last s.finals s.parallel ≡ o
          → lowered_as o last s.parallel ≡ Err fault → IsUnstaged m s fault ⊎ IsUnlowerable m s fault
      by_form last steps None e h = absurd (cc)
      by_form last steps (Some broken) e h =
          let same : final_fault_of broken ≡ fault = cc in
          inr (record { last = last; steps = steps; broken = broken; first = e; told = sym same })

      by : (o : Result Module StepFault) → last_version_of m s.steps ≡ o → staged_as o s ≡ Err fault → IsUnstaged m s fault ⊎ IsUnlowerable m s fault
      by (Ok last) e h = by_form last e (final_fault last s.finals s.parallel) refl h
      by (Err failing) e h =
          let same : step_fault_of failing ≡ fault = cc in
          inl (record { failing = failing; first = e; told = sym same })

  pub refused_versions : (m : Module) (s : Script) (r : Result (Vec ℕ A) CompileRefusal) → Answers (versions_as (versions_of m s.steps)) r
      → (fault : Fault) → IsErrOf r (Refused fault) → IsUnstaged m s fault
  refused_versions m s (Ok text) h fault is = absurd (cc)
  refused_versions m s (Err Memory) h fault is = absurd (cc)
  refused_versions m s (Err (Refused told)) h fault is =
      let same : told ≡ fault = cc in
      by (versions_of m s.steps) refl (h ∙ ap (λ (f : Fault). Err f) same)
    where
      by : (o : Result (List Module) StepFault) → versions_of m s.steps ≡ o → versions_as o ≡ Err fault → IsUnstaged m s fault
      by (Ok ms) e h = absurd (cc)
      by (Err failing) e h =
          let same : step_fault_of failing ≡ fault = cc in
          record { failing = failing; first = last_fails m s.steps failing e; told = sym same }

  pub refused_facts : (m : Module) (s : Script) (r : Result (Vec ℕ A) CompileRefusal) → Answers (emitted_as Facts m s) r
      → (fault : Fault) → IsErrOf r (Refused fault) → IsUnemitted Facts m s fault
  refused_facts m s (Ok text) h fault is = absurd (cc)
  refused_facts m s (Err Memory) h fault is = absurd (cc)
  refused_facts m s (Err (Refused told)) h fault is =
      let same : told ≡ fault = cc in
      let of = fault_is (staged_as (last_version_of m s.steps) s) (facts_text m s) fault (h ∙ ap (λ (f : Fault). Err f) same) in
      let due : Answers {A = A} (staged_as (last_version_of m s.steps) s) (Err (Refused fault)) = of.0 in
      (refused_staged m s (Err (Refused fault)) due fault refl, of.1)

  pub refused_loops : (m : Module) (s : Script) (r : Result (Vec ℕ A) CompileRefusal) → Answers (emitted_as Loops m s) r
      → (fault : Fault) → IsErrOf r (Refused fault) → IsUnemitted Loops m s fault
  refused_loops m s r h fault is = refused_staged m s r h fault is

  pub refused_scheduled : (emit : Asked) (m : Module) (o : Option (List ℕ)) (s : Script) (r : Result (Vec ℕ A) CompileRefusal) → IsScriptOf o s
      → ((fault : Fault) → IsErrOf r (Refused fault) → IsUnemitted emit m s fault) → (fault : Fault) → IsErrOf r (Refused fault) → IsRefusedScript emit m o
      fault
  refused_scheduled emit m o s r reads h fault is = inr (record { schedule = s; reads = reads; why = h fault is })

pub failing : {B : Type 0} (want : Result B StepFault) (fault : StepFault) (kind : StepKind) → IsRefused want fault kind → kind ≢ step.Memory → want ≡ Err fault
failing want fault step.NoSuchRule h n = h
failing want fault step.NoSuchPath h n = h
failing want fault (step.Rule broken) h n = h
failing want fault step.TooDeep h n = h
failing want fault step.RankTooLarge h n = h
failing want fault (step.TooManyNodes nodes) h n = h
failing want fault step.CoefficientTooLarge h n = h
failing want fault step.IndexTooLong h n = h
failing want fault step.Memory h n = absurd (n refl)

-- of a step that fails
pub unstaged_answers : (A : Type 0) (m : Module) (s : Script) (fault : StepFault) (refusal : CompileRefusal)
    → IsRefused (last_version_of m s.steps) fault fault.kind → TellsStep fault refusal
    → Answers {A = A} (staged_as (last_version_of m s.steps) s) (Err refusal)
unstaged_answers A m s fault Memory refused tells = tt
unstaged_answers A m s fault (Refused told) refused tells =
    ap (λ (o : Result Module StepFault). staged_as o s) (failing (last_version_of m s.steps) fault fault.kind refused tells.1)
    ∙ ap (λ (f : Fault). Err f) (sym tells.0)

-- of a step that fails, where all versions are asked for
pub unversioned_answers : (A : Type 0) (m : Module) (s : Script) (fault : StepFault) (refusal : CompileRefusal)
    → IsRefused (versions_of m s.steps) fault fault.kind → TellsStep fault refusal → Answers {A = A} (versions_as (versions_of m s.steps)) (Err refusal)
unversioned_answers A m s fault Memory refused tells = tt
unversioned_answers A m s fault (Refused told) refused tells =
    ap versions_as (failing (versions_of m s.steps) fault fault.kind refused tells.1) ∙ ap (λ (f : Fault). Err f) (sym tells.0)

-- of a script that is not read
pub unscripted_answers : (A : Type 0) (emit : Asked) (m : Module) (o : Option (List ℕ)) (fault : ScriptFault) (refusal : CompileRefusal)
    → Reads (Err fault) (script_of o) → TellsScript fault refusal → Answers {A = A} (scheduled_as emit (script_of o) m) (Err refusal)
unscripted_answers A emit m o fault Memory exact tells = tt
unscripted_answers A emit m o fault (Refused told) exact tells =
    ap (λ (read : Result Script ScriptFault). scheduled_as emit read m) (exact tells.1) ∙ ap (λ (f : Fault). Err f) (sym tells.0)

-- a fault that is told of a script that is not read
pub refused_unscripted : (A : Type 0) (emit : Asked) (m : Module) (o : Option (List ℕ)) (fault : ScriptFault) (refusal : CompileRefusal)
    → (fault ≢ script.Memory → IsUnscripted o (script_fault_of fault)) → TellsScript fault refusal → (told : Fault)
    → IsErrOf {T = Vec ℕ A} (Err refusal) (Refused told) → IsRefusedScript emit m o told
refused_unscripted A emit m o fault Memory cause tells told is = absurd (cc)
refused_unscripted A emit m o fault (Refused found) cause tells told is =
    let same : found ≡ told = cc in
    inl (subst (λ (f : Fault). IsUnscripted o f) (sym tells.0 ∙ same) (cause tells.1))
