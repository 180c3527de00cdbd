-- From what the reader, the rules of modules, the lowering and the printer say to what the compiler says.
use Rattle.std.proofs.Common.{◌≡◌, ◌≢◌, inl, inr, ℕ, List, refl, ap, sym, subst, ◌∙◌, MatchResult, IfOk, Ok, Err, Some, None}
use Rattle.std.specs.Prelude.{IsErrOf}
use Rattle.std.specs.declared.option.Option.{Option}
use Rattle.std.specs.declared.result.Result.{Result}
use Rattle.std.specs.declared.vec.Vec.{Vec}
use Rattle.term_tree.specs.declared.term.Module.{Module}
use Rattle.term_tree.specs.declared.term.Path.{Path}
use Rattle.loop_lang.specs.declared.stmt.Prog.{Prog}
use Rattle.loop_lang.specs.Form.{IsWellFormed}
use Rattle.admission.specs.Admission.{Accepted, admission_fault}
use Rattle.admission.specs.Admission.{Tells as Judges}
use Rattle.admission.specs.declared.fault.AdmissionFault.{AdmissionFault}
use Rattle.admission.specs.declared.fault.AdmissionFault.TheVariants as admission
use Rattle.source_grammar.specs.Source.{SourceText}
use Rattle.atl_reader.specs.declared.fault.ReadFault.{ReadFault}
use Rattle.atl_reader.specs.declared.fault.ReadFault.TheVariants as read
use Rattle.atl_reader.specs.Source.{IsCause, IsFirstFault, read_source}
use Rattle.atl_reader.specs.Source.{Answers as Reads}
use Rattle.final_rules.specs.Rules.{final_fault}
use Rattle.final_rules.specs.declared.fault.FinalFault.{FinalFault}
use Rattle.final_rules.specs.declared.fault.FinalFault.TheVariants as final
use Rattle.final_verdict.specs.Verdict.{Tells as Refuses}
use Rattle.lowering_laws.specs.Correct.{HasLengths, IsCorrect}
use Rattle.lowering_laws.specs.Lowered.{loops_of}
use Rattle.lowering_laws.specs.Nest.{module_nest, nests_of_program}
use Rattle.c_print.specs.Program.{canonical_text}
use Rattle.c_read.specs.Alone.{IsTextOfAlone}
use Rattle.linear_cert.specs.declared.lines.FinalLine.{FinalLine}
use Rattle.atl_driver.specs.Compile.{Answers, Tells, TellsAdmission, TellsFinal, compiled, compiled_as, fault_of, judged_as, lowered_as, module_compiled}
use Rattle.atl_driver.specs.Compile.{scheduled_as, script_of}
use Rattle.atl_driver.specs.Correct.{AreLoops, IsAdmitted, IsCompiled, IsRefusedModule, IsRefusedScript, IsRefusedSource, IsTextUnder, IsTextOf, IsUnread}
use Rattle.atl_driver.specs.declared.compile.CompileRefusal.{CompileRefusal}
use Rattle.atl_driver.specs.declared.compile.CompileRefusal.TheVariants.{Refused, Memory}
use Rattle.atl_driver.specs.Asked.{Asked}
use Rattle.atl_driver.specs.declared.fault.Fault.{Fault}

same_module : (m other : Module) → Reads (Ok m) (Ok other) → other ≡ m
same_module m other h = cc

-- the source is the text of the module that is read
pub text_of_one : (z : List ℕ) (m : Module) → SourceText z m → ((other : Module) → SourceText z other → Reads (Ok m) (Ok other)) → IsTextOf z m
text_of_one z m reads only = record { reads = reads; only = λ other is. same_module m other (only other is) }

module _ {A : Type 0} where
  -- the text of a program that is lowered from the module, whose printed text stands for it alone
  pub are_loops : (m : Module) (fs : List FinalLine) (marks : List Path) (p q : Prog) (r : Result (Vec ℕ A) CompileRefusal) → p ≡ loops_of m marks → q ≡ p
      → IsWellFormed p → HasLengths m p → IsCorrect m p → IsTextOfAlone (canonical_text (loops_of m marks)) (loops_of m marks)
      → nests_of_program p ≡ module_nest m marks → final_fault m fs marks ≡ None
      → MatchResult r (λ text. text.items ≡ canonical_text q) (λ refusal. refusal ≡ Memory)
      → MatchResult r (λ text. AreLoops m fs marks text.items) (λ refusal. refusal ≡ Memory)
  are_loops m fs marks p q (Ok text) loops same formed lengths correct text_of nests accepted prints =
      let z : text.items ≡ canonical_text p = prints ∙ ap canonical_text same in
      let own = subst (λ (x : Prog). IsTextOfAlone (canonical_text x) x) (sym loops) text_of in
      let whole = subst (λ (t : List ℕ). IsTextOfAlone t p) (sym z) own in
      record {
        accepted = accepted;
        program = p;
        loops = loops;
        prints = z;
        reads_back = whole.is;
        alone = whole.alone;
        nests = nests;
        formed = formed;
        lengths = lengths;
        correct = correct;
      }
  are_loops m fs marks p q (Err e) loops same formed lengths correct text_of nests accepted h = h

  -- of a module that may be lowered
  pub lowered_answers : (f : Module × List FinalLine × List Path) (m : Module) (fs : List FinalLine) (marks : List Path) (r : Result (Vec ℕ A) CompileRefusal)
      → f ≡ (m, fs, marks) → final_fault m fs marks ≡ None
      → MatchResult r (λ text. AreLoops f.0 f.1 f.2 text.items) (λ refusal. refusal ≡ Memory) → Answers (lowered_as (final_fault m fs marks) m marks) r
  lowered_answers f m fs marks (Ok text) same e h =
      let here = subst (λ (g : Module × List FinalLine × List Path). AreLoops g.0 g.1 g.2 text.items) same h in
      ap (λ (o : Option FinalFault). lowered_as o m marks) e ∙ ap (λ (t : List ℕ). Ok t) (sym (here.prints ∙ ap canonical_text here.loops))
  lowered_answers f m fs marks (Err (Refused fault)) same e h = absurd (cc)
  lowered_answers f m fs marks (Err Memory) same e h = tt

  pub lowered_loops : (f : Module × List FinalLine × List Path) (m : Module) (fs : List FinalLine) (marks : List Path) (r : Result (Vec ℕ A) CompileRefusal)
      → f ≡ (m, fs, marks) → MatchResult r (λ text. AreLoops f.0 f.1 f.2 text.items) (λ refusal. refusal ≡ Memory)
      → IfOk r (λ text. AreLoops m fs marks text.items)
  lowered_loops f m fs marks (Ok text) same h = subst (λ (g : Module × List FinalLine × List Path). AreLoops g.0 g.1 g.2 text.items) same h
  lowered_loops f m fs marks (Err e) same h = tt

  -- of a module that is admitted
  pub admitted_answers : (emit : Asked) (m : Module) (text : Option (List ℕ)) (r : Result (Vec ℕ A) CompileRefusal) → Accepted m
      → Answers (scheduled_as emit (script_of text) m) r → Answers (module_compiled emit m text) r
  unfolding module_compiled
  admitted_answers emit m text r a h = subst (λ (o : Option AdmissionFault). Answers (judged_as emit o m text) r) (sym a) h

  pub admitted_under : (emit : Asked) (m : Module) (script : Option (List ℕ)) (r : Result (Vec ℕ A) CompileRefusal) → IsAdmitted m
      → IfOk r (λ text. IsTextUnder emit m script text.items) → IfOk r (λ text. IsAdmitted m × IsTextUnder emit m script text.items)
  admitted_under emit m script (Ok text) a h = (a, h)
  admitted_under emit m script (Err e) a h = tt

  -- of a source that is read
  pub answers_read : (emit : Asked) (z : List ℕ) (script : Option (List ℕ)) (m : Module) (r : Result (Vec ℕ A) CompileRefusal) → read_source z ≡ Ok m
      → Answers (module_compiled emit m script) r → Answers (compiled emit z script) r
  unfolding compiled
  answers_read emit z script m r e h = subst (λ (o : Result Module ReadFault). Answers (compiled_as emit o script) r) (sym e) h

  pub compiled_read : (emit : Asked) (z : List ℕ) (script : Option (List ℕ)) (m : Module) (r : Result (Vec ℕ A) CompileRefusal) → IsTextOf z m
      → IfOk r (λ text. IsAdmitted m × IsTextUnder emit m script text.items) → IfOk r (λ text. IsCompiled emit z script text.items)
  compiled_read emit z script m (Ok text) reads h = record { origin = m; reads = reads; admitted = h.0; under = h.1 }
  compiled_read emit z script m (Err e) reads h = tt

  -- the cause of a fault of a module that is read
  pub refused_read : (emit : Asked) (z : List ℕ) (script : Option (List ℕ)) (m : Module) (r : Result (Vec ℕ A) CompileRefusal) → IsTextOf z m
      → ((fault : Fault) → IsErrOf r (Refused fault) → IsRefusedModule emit m script fault)
      → (fault : Fault) → IsErrOf r (Refused fault) → IsRefusedSource emit z script fault
  refused_read emit z script m r reads h fault is = inr (record { origin = m; reads = reads; why = h fault is })

  -- the cause of a fault of a module that is admitted
  pub refused_admitted : (emit : Asked) (m : Module) (script : Option (List ℕ)) (r : Result (Vec ℕ A) CompileRefusal) → Accepted m
      → ((fault : Fault) → IsErrOf r (Refused fault) → IsRefusedScript emit m script fault)
      → (fault : Fault) → IsErrOf r (Refused fault) → IsRefusedModule emit m script fault
  refused_admitted emit m script r a h fault is = inr (a, h fault is)

-- of a module that may not be lowered
pub unlowerable_answers : (A : Type 0) (m : Module) (fs : List FinalLine) (marks : List Path) (fault : FinalFault) (refusal : CompileRefusal)
    → Refuses (final_fault m fs marks) fault → TellsFinal fault refusal → Answers {A = A} (lowered_as (final_fault m fs marks) m marks) (Err refusal)
unlowerable_answers A m fs marks fault Memory refuses tells = tt
unlowerable_answers A m fs marks fault (Refused told) refuses tells =
    ap (λ (o : Option FinalFault). lowered_as o m marks) (due fault refuses tells.1) ∙ ap (λ (f : Fault). Err f) (sym tells.0)
  where
    due : (fault : FinalFault) → Refuses (final_fault m fs marks) fault → fault ≢ final.Memory → final_fault m fs marks ≡ Some fault
    due (final.NotLowerable path) h n = h
    due (final.NoSuchGoal line) h n = h
    due (final.AccessNotShown goal) h n = h
    due (final.DropNotShown goal) h n = h
    due (final.IndexTooLarge index) h n = h
    due (final.ParallelNotGen path) h n = h
    due (final.LetInParallel path) h n = h
    due (final.NestedParallel path) h n = h
    due final.Memory h n = absurd (n refl)

broken_rule : (m : Module) (fault : AdmissionFault) → Judges (admission_fault m) fault → fault ≢ admission.Memory → admission_fault m ≡ Some fault
broken_rule m (admission.Shape f) h n = h
broken_rule m (admission.ExtentNotShown g) h n = h
broken_rule m (admission.BadExample c) h n = h
broken_rule m admission.Memory h n = absurd (n refl)

-- of a module that is not admitted
pub unadmitted_answers : (A : Type 0) (emit : Asked) (m : Module) (text : Option (List ℕ)) (fault : AdmissionFault) (refusal : CompileRefusal)
    → Judges (admission_fault m) fault → TellsAdmission fault refusal → Answers {A = A} (module_compiled emit m text) (Err refusal)
unfolding module_compiled
unadmitted_answers A emit m text fault Memory judges tells = tt
unadmitted_answers A emit m text fault (Refused told) judges tells =
    ap (λ (o : Option AdmissionFault). judged_as emit o m text) (broken_rule m fault judges tells.1) ∙ ap (λ (f : Fault). Err f) (sym tells.0)

-- a fault that is told of a module that is not admitted
pub refused_unadmitted : (A : Type 0) (emit : Asked) (m : Module) (script : Option (List ℕ)) (fault : AdmissionFault) (refusal : CompileRefusal)
    → Judges (admission_fault m) fault → TellsAdmission fault refusal → (told : Fault) → IsErrOf {T = Vec ℕ A} (Err refusal) (Refused told)
    → IsRefusedModule emit m script told
refused_unadmitted A emit m script fault Memory judges tells told is = absurd (cc)
refused_unadmitted A emit m script fault (Refused found) judges tells told is =
    let same : found ≡ told = cc in
    inl (record { broken = fault; first = broken_rule m fault judges tells.1; told = sym same ∙ tells.0 })

-- of a source that is not read
pub answers_unread : (A : Type 0) (emit : Asked) (z : List ℕ) (script : Option (List ℕ)) (fault : ReadFault) (refusal : CompileRefusal)
    → Reads (Err fault) (read_source z) → Tells fault refusal → Answers {A = A} (compiled emit z script) (Err refusal)
unfolding compiled
answers_unread A emit z script fault (Refused told) exact tells =
    ap (λ (o : Result Module ReadFault). compiled_as emit o script) (exact tells.1) ∙ ap (λ (f : Fault). Err f) (sym tells.0)
answers_unread A emit z script fault Memory exact tells = tt

not_ok : {P : Type 0} (fault : ReadFault) (m : Module) → Reads (Err fault) (Ok m) → fault ≢ read.Memory → P
not_ok fault m h sure = let e = h sure in absurd (cc)

told_is : (fault : ReadFault) (refusal : CompileRefusal) (told : Fault) → Tells fault refusal → refusal ≡ Refused told → (told ≡ fault_of fault)
    × (fault ≢ read.Memory)
told_is fault (Refused f) told tells is = let same : f ≡ told = cc in (sym same ∙ tells.0, tells.1)
told_is fault Memory told tells is = absurd (cc)

-- a fault that is told of a source that is not read
pub is_unread : (A : Type 0) (z : List ℕ) (fault : ReadFault) (refusal : CompileRefusal) → IsCause z fault → IsFirstFault z fault
    → ((m : Module) → SourceText z m → Reads (Err fault) (Ok m)) → Tells fault refusal → (told : Fault)
    → IsErrOf {T = Vec ℕ A} (Err refusal) (Refused told) → IsUnread z told
is_unread A z fault refusal is_cause first only tells told is =
    let same : refusal ≡ Refused told = cc in
    let cause = told_is fault refusal told tells same in
    record {
      cause = fault;
      told = cause.0;
      is_cause = is_cause;
      first = first;
      fails = cause.1;
      none = λ m reads. not_ok {P = ⊥} fault m (only m reads) cause.1;
    }

pub refused_unread : (A : Type 0) (emit : Asked) (z : List ℕ) (script : Option (List ℕ)) (fault : ReadFault) (refusal : CompileRefusal) → IsCause z fault
    → IsFirstFault z fault → ((m : Module) → SourceText z m → Reads (Err fault) (Ok m)) → Tells fault refusal → (told : Fault)
    → IsErrOf {T = Vec ℕ A} (Err refusal) (Refused told) → IsRefusedSource emit z script told
refused_unread A emit z script fault refusal is_cause first only tells told is = inl (is_unread A z fault refusal is_cause first only tells told is)
