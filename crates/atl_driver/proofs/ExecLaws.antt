-- From what executing a C text says to what the driver says.
use Rattle.std.proofs.Common.{◌≡◌, ◌≢◌, ◌∙◌, ℕ, List, Result, Err, refl, ap, sym, subst}
use Rattle.std.specs.Prelude.{IfOk, IsErrOf}
use Rattle.std.specs.declared.vec.Vec.{Vec}
use Rattle.run_text.specs.declared.fault.RunFault.TheVariants as run
use Rattle.c_execution.specs.Executed.{IsExecFault, IsExecuted, exec_answer}
use Rattle.c_execution.specs.Executed as execution
use Rattle.c_execution.specs.declared.fault.ExecFault.{ExecFault}
use Rattle.c_execution.specs.declared.fault.ExecFault.TheVariants as exec
use Rattle.atl_driver.specs.Compile.{Answers, TellsExec, decided, exec_fault_of, executed_as, first_content, script_content}
use Rattle.atl_driver.specs.Correct.{HasFault, IsRight, IsUnexecuted}
use Rattle.atl_driver.specs.declared.command.Verb.TheVariants.{Exec}
use Rattle.atl_driver.specs.declared.compile.CompileRefusal.{CompileRefusal}
use Rattle.atl_driver.specs.declared.compile.CompileRefusal.TheVariants.{Refused, Memory}
use Rattle.atl_driver.specs.declared.fault.Fault.{Fault}

abbrev as_error : Fault → Result (List ℕ) Fault
as_error fault = Err fault

is_fault : (A : Type 0) (due : Result (List ℕ) ExecFault) (k : ExecFault) → execution.Answers {A = A} due (Err k) → k ≢ exec.Run run.Memory → due ≡ Err k
is_fault A due (exec.BadC at) h other = h
is_fault A due (exec.Run (run.BadData at)) h other = h
is_fault A due (exec.Run (run.SizesNotAllowed constraint)) h other = h
is_fault A due (exec.Run (run.Stuck s)) h other = h
is_fault A due (exec.Run (run.TooBigToRun words)) h other = h
is_fault A due (exec.Run (run.WrongCount i n m)) h other = h
is_fault A due (exec.Run run.Memory) h other = absurd (other refl)

module _ (A : Type 0) (c z : List ℕ) where
  -- a refusal is the fault that executing comes to
  pub answers_unexecuted : (k : ExecFault) (refusal : CompileRefusal) → execution.Answers {A = A} (exec_answer c z) (Err k) → TellsExec k refusal
      → Answers {A = A} (executed_as (exec_answer c z)) (Err refusal)
  answers_unexecuted k Memory h tells = tt
  answers_unexecuted k (Refused told) h tells = ap executed_as (is_fault A (exec_answer c z) k h tells.1) ∙ ap as_error (sym tells.0)

  told_so : (k : ExecFault) (refusal : CompileRefusal) (told : Fault) → TellsExec k refusal → refusal ≡ Refused told
      → (told ≡ exec_fault_of k) × (k ≢ exec.Run run.Memory)
  told_so k (Refused fault) told tells is = let same : told ≡ fault = cc in (same ∙ tells.0, tells.1)
  told_so k Memory told tells is = absurd (cc)

  -- it has its cause
  pub refused_unexecuted : (k : ExecFault) (refusal : CompileRefusal) → IsExecFault c z k → TellsExec k refusal → (told : Fault)
      → IsErrOf {T = Vec ℕ A} (Err refusal) (Refused told) → IsUnexecuted c z told
  refused_unexecuted k refusal is_cause tells told is =
      let same : refusal ≡ Refused told = cc in
      let cause = told_so k refusal told tells same in
      record { cause = k; told = cause.0; is_cause = is_cause; fails = cause.1 }

-- ---- the contents that were read

module _ {A : Type 0} where
  pub decided_exec : (c z : List ℕ) (zs : List (List ℕ)) (r : Result (Vec ℕ A) CompileRefusal) → c ≡ first_content zs → z ≡ script_content zs
      → Answers (executed_as (exec_answer c z)) r → Answers (decided Exec zs) r
  unfolding decided
  decided_exec c z zs r e s h =
      subst (λ (x : List ℕ). Answers (executed_as (exec_answer x (script_content zs))) r) e
      (subst (λ (y : List ℕ). Answers (executed_as (exec_answer c y)) r) s h)

  pub right_exec : (c z : List ℕ) (zs : List (List ℕ)) (r : Result (Vec ℕ A) CompileRefusal) → c ≡ first_content zs → z ≡ script_content zs
      → IfOk r (λ text. IsExecuted c z text.items) → IfOk r (λ text. IsRight Exec zs text.items)
  right_exec c z zs r e s h =
      subst (λ (x : List ℕ). IfOk r (λ text. IsExecuted x (script_content zs) text.items)) e
      (subst (λ (y : List ℕ). IfOk r (λ text. IsExecuted c y text.items)) s h)

  pub fault_exec : (c z : List ℕ) (zs : List (List ℕ)) (r : Result (Vec ℕ A) CompileRefusal) → c ≡ first_content zs → z ≡ script_content zs
      → ((fault : Fault) → IsErrOf r (Refused fault) → IsUnexecuted c z fault) → (fault : Fault) → IsErrOf r (Refused fault) → HasFault Exec zs fault
  fault_exec c z zs r e s h fault is =
      subst (λ (x : List ℕ). IsUnexecuted x (script_content zs) fault) e (subst (λ (y : List ℕ). IsUnexecuted c y fault) s (h fault is))
