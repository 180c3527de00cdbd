-- From what the plain evaluator says to what the driver says.
use Rattle.std.proofs.Common.{◌≡◌, ◌≢◌, ◌⊎◌, ◌∙◌, inl, inr, ℕ, List, Ok, Err, Some, refl, ap, sym, subst, IfOk}
use Rattle.std.specs.Prelude.{IsErrOf}
use Rattle.std.specs.declared.result.Result.{Result}
use Rattle.std.specs.declared.vec.Vec.{Vec}
use Rattle.atl_reader.specs.declared.fault.ReadFault.{ReadFault}
use Rattle.atl_reader.specs.Source.{read_source}
use Rattle.atl_reader.specs.Source.{Answers as Reads}
use Rattle.plain_run.specs.PlainRun.{IsPlainDenoted, IsPlainFault, plain_run}
use Rattle.plain_run.specs.PlainRun as evaluated
use Rattle.plain_run.specs.declared.fault.PlainFault.{PlainFault}
use Rattle.plain_run.specs.declared.fault.PlainFault.TheVariants as plain
use Rattle.source_grammar.specs.Source.{SourceText}
use Rattle.term_tree.specs.Modules.{IsSound}
use Rattle.term_tree.specs.declared.term.Module.{Module}
use Rattle.atl_driver.specs.Asked.{Loops}
use Rattle.atl_driver.specs.Compile.{Answers, Tells, TellsPlain, compiled, once_accepted, plainly, plainly_as, read_plainly}
use Rattle.atl_driver.specs.Correct.{IsCompiled, IsPlainlyTold, IsReadPlainly, IsRefusedPlainly, IsRefusedSource, IsSoundText, IsUnplain, IsUnplainRead}
use Rattle.atl_driver.specs.Correct.{IsUnread}
use Rattle.atl_driver.specs.declared.compile.CompileRefusal.{CompileRefusal}
use Rattle.atl_driver.specs.declared.compile.CompileRefusal.TheVariants.{Refused, Memory}
use Rattle.atl_driver.specs.declared.fault.Fault.{Fault}

abbrev as_error : Fault → Result (List ℕ) Fault
as_error fault = Err fault

due : (A : Type 0) (want : Result (List ℕ) PlainFault) (k : PlainFault) → evaluated.Answers {A = A} want (Err k) → k ≢ plain.Memory → want ≡ Err k
due A want (plain.BadData at) h n = h
due A want (plain.SizesNotAllowed constraint) h n = h
due A want (plain.TooBigToRun words) h n = h
due A want (plain.WrongCount i w g) h n = h
due A want (plain.TooMuchWork steps) h n = h
due A want plain.Memory h n = absurd (n refl)

module _ (A : Type 0) (m : Module) (z : List ℕ) where
  pub answers_unplain : (k : PlainFault) (refusal : CompileRefusal) → evaluated.Answers {A = A} (plain_run m z) (Err k) → TellsPlain k refusal
      → Answers {A = A} (plainly_as (plain_run m z)) (Err refusal)
  answers_unplain k Memory h tells = tt
  answers_unplain k (Refused told) h tells = ap plainly_as (due A (plain_run m z) k h tells.1) ∙ ap as_error (sym tells.0)

  pub refused_unplain : (k : PlainFault) (refusal : CompileRefusal) → IsPlainFault m z k → TellsPlain k refusal → (told : Fault)
      → IsErrOf {T = Vec ℕ A} (Err refusal) (Refused told) → IsUnplain m z told
  refused_unplain k Memory is_cause tells told is = absurd (cc)
  refused_unplain k (Refused found) is_cause tells told is =
      let same : found ≡ told = cc in
      record { cause = k; told = sym same ∙ tells.0; is_cause = is_cause; fails = tells.1 }

-- ---- a source that is read again

module _ {A : Type 0} (y g : List ℕ) (m : Module) (r : Result (Vec ℕ A) CompileRefusal) where
  pub answers_again : read_source y ≡ Ok m → Answers (plainly_as (plain_run m g)) r → Answers (read_plainly (read_source y) g) r
  answers_again e h = subst (λ (o : Result Module ReadFault). Answers (read_plainly o g) r) (sym e) h

  pub refused_again : SourceText y m → ((fault : Fault) → IsErrOf r (Refused fault) → IsUnplain m g fault) → (fault : Fault) → IsErrOf r (Refused fault)
      → IsUnread y fault ⊎ IsUnplainRead y g fault
  refused_again reads h fault is = inr (record { origin = m; reads = reads; why = h fault is })

pub denoted_again : {A : Type 0} (y g : List ℕ) (m : Module) (r : Result (Vec ℕ A) CompileRefusal) → SourceText y m
    → IfOk r (λ text. IsPlainDenoted m g text.items) → IfOk r (λ text. IsReadPlainly y g text.items)
denoted_again y g m (Ok text) reads h = record { origin = m; reads = reads; denoted = h }
denoted_again y g m (Err e) reads h = tt

pub unread_again : (A : Type 0) (y g : List ℕ) (fault : ReadFault) (refusal : CompileRefusal) → Reads (Err fault) (read_source y) → Tells fault refusal
    → Answers {A = A} (read_plainly (read_source y) g) (Err refusal)
unread_again A y g fault Memory exact tells = tt
unread_again A y g fault (Refused told) exact tells =
    ap (λ (o : Result Module ReadFault). read_plainly o g) (exact tells.1) ∙ ap as_error (sym tells.0)

-- ---- a source that is accepted

-- its module is sound
pub sound_text : (y s c : List ℕ) → IsCompiled Loops y (Some s) c → IsSoundText y
sound_text y s c accepted = λ m reads. subst IsSound (sym (accepted.reads.only m reads)) accepted.admitted.sound

module _ {A : Type 0} (y s g : List ℕ) (r : Result (Vec ℕ A) CompileRefusal) where
  pub answers_accepted : (c : List ℕ) → compiled Loops y (Some s) ≡ Ok c → Answers (read_plainly (read_source y) g) r → Answers (plainly y s g) r
  unfolding plainly
  answers_accepted c e h = subst (λ (o : Result (List ℕ) Fault). Answers (once_accepted o (read_plainly (read_source y) g)) r) (sym e) h

  pub refused_accepted : (c : List ℕ) → IsCompiled Loops y (Some s) c
      → ((fault : Fault) → IsErrOf r (Refused fault) → IsUnread y fault ⊎ IsUnplainRead y g fault) → (fault : Fault) → IsErrOf r (Refused fault)
      → IsRefusedPlainly y s g fault
  refused_accepted c accepted h fault is = by (h fault is)
    where
      by : IsUnread y fault ⊎ IsUnplainRead y g fault → IsRefusedPlainly y s g fault
      by (inl unread) = absurd (unread.none accepted.origin accepted.reads.reads)
      by (inr of) = inr (record {
        c = c;
        accepted = accepted;
        why = subst (λ (m : Module). IsUnplain m g fault) (accepted.reads.only of.origin of.reads) of.why;
      })

pub told_accepted : {A : Type 0} (y s g c : List ℕ) (r : Result (Vec ℕ A) CompileRefusal) → IsCompiled Loops y (Some s) c
    → IfOk r (λ text. IsReadPlainly y g text.items) → IfOk r (λ text. IsPlainlyTold y s g text.items)
told_accepted y s g c (Ok text) accepted of = record {
  c = c;
  accepted = accepted;
  denoted = subst (λ (m : Module). IsPlainDenoted m g text.items) (accepted.reads.only of.origin of.reads) of.denoted;
}
told_accepted y s g c (Err e) accepted of = tt

pub answers_unaccepted : (A : Type 0) (y s g : List ℕ) (refusal : CompileRefusal) → Answers {A = A} (compiled Loops y (Some s)) (Err refusal)
    → Answers {A = A} (plainly y s g) (Err refusal)
unfolding plainly
answers_unaccepted A y s g Memory h = tt
answers_unaccepted A y s g (Refused fault) h = ap (λ (o : Result (List ℕ) Fault). once_accepted o (read_plainly (read_source y) g)) h

pub refused_unaccepted : (A : Type 0) (y s g : List ℕ) (refusal : CompileRefusal)
    → ((fault : Fault) → IsErrOf {T = Vec ℕ A} (Err refusal) (Refused fault) → IsRefusedSource Loops y (Some s) fault) → (fault : Fault)
    → IsErrOf {T = Vec ℕ A} (Err refusal) (Refused fault) → IsRefusedPlainly y s g fault
refused_unaccepted A y s g refusal h fault is = inl (h fault is)
