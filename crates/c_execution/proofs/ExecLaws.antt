-- From what reading and running say to what executing says.
use Rattle.std.proofs.Common.{◌≡◌, ℕ, Result, Ok, Err, refl, ap, sym, subst}
use Rattle.std.specs.declared.vec.Vec.{Vec}
use Rattle.text_tokens.specs.Kinds.{Text}
use Rattle.reader_laws.specs.declared.fault.ReadError.{ReadError}
use Rattle.loop_lang.specs.declared.stmt.Prog.{Prog}
use Rattle.run_text.specs.Told as run
use Rattle.run_text.specs.declared.fault.RunFault.{RunFault}
use Rattle.run_text.specs.declared.fault.RunFault.TheVariants as f
use Rattle.c_text.specs.Statement.{CText}
use Rattle.c_read.specs.Alone.{IsExact}
use Rattle.c_reader.specs.Fault.{IsBadAt, IsOfNoOther}
use Rattle.c_execution.specs.Executed.{Answers, IsExecFault, IsFaultOf, as_exec, exec_answer, exec_read, executed}
use Rattle.c_execution.specs.declared.fault.ExecFault.TheVariants as e

module _ (A : Type 0) (c z : Text) where
  pub exec-ok : (p : Prog) (text : Vec ℕ A) → IsExact c → CText c p → executed p z ≡ Ok text.items → exec_answer c z ≡ Ok text.items
  unfolding exec_answer
  exec-ok p text exact of h =
      subst (λ (x : Result Prog ReadError). exec_read x z ≡ Ok text.items) (sym ((exact p).0 of)) (ap as_exec h)

  exec-read : (p : Prog) (k : RunFault) → IsExact c → CText c p → executed p z ≡ Err k → exec_answer c z ≡ Err (e.Run k)
  unfolding exec_answer
  exec-read p k exact of h = subst (λ (x : Result Prog ReadError). exec_read x z ≡ Err (e.Run k)) (sym ((exact p).0 of)) (ap as_exec h)

  pub exec-err : (p : Prog) (k : RunFault) → IsExact c → CText c p → run.Answers {A = A} (executed p z) (Err k) → Answers {A = A} (exec_answer c z) (Err (e.Run k))
  exec-err p (f.BadData at) exact of h = exec-read p (f.BadData at) exact of h
  exec-err p (f.SizesNotAllowed constraint) exact of h = exec-read p (f.SizesNotAllowed constraint) exact of h
  exec-err p (f.Stuck s) exact of h = exec-read p (f.Stuck s) exact of h
  exec-err p (f.TooBigToRun words) exact of h = exec-read p (f.TooBigToRun words) exact of h
  exec-err p (f.WrongCount i n m) exact of h = exec-read p (f.WrongCount i n m) exact of h
  exec-err p f.Memory exact of h = tt

  pub exec-bad : (at : ℕ) → IsBadAt c at → exec_answer c z ≡ Err (e.BadC at)
  unfolding exec_answer
  exec-bad at bad = subst (λ (x : Result Prog ReadError). exec_read x z ≡ Err (e.BadC at)) (sym bad.told) refl

  pub exec-cause : (p : Prog) (k : RunFault) → CText c p → IsOfNoOther c p → IsFaultOf p z k → IsExecFault c z (e.Run k)
  exec-cause p (f.BadData at) of alone h = record { program = p; reads = of; alone = alone; why = h }
  exec-cause p (f.SizesNotAllowed constraint) of alone h = record { program = p; reads = of; alone = alone; why = h }
  exec-cause p (f.Stuck s) of alone h = record { program = p; reads = of; alone = alone; why = h }
  exec-cause p (f.TooBigToRun words) of alone h = record { program = p; reads = of; alone = alone; why = h }
  exec-cause p (f.WrongCount i n m) of alone h = record { program = p; reads = of; alone = alone; why = h }
  exec-cause p f.Memory of alone h = tt
