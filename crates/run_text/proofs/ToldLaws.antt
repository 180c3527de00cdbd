-- From what a run comes to, to its text.
use Rattle.std.proofs.Common.{◌≡◌, ℕ, List, Result, Ok, Err, ap, sym, subst}
use Rattle.std.specs.Prelude.{IfOk}
use Rattle.std.specs.declared.vec.Vec.{Vec}
use Rattle.text_tokens.specs.Kinds.{Text}
use Rattle.loop_lang.specs.declared.stmt.Prog.{Prog}
use Rattle.loop_run.specs.Made.{IsAnswer}
use Rattle.loop_run.specs.declared.given.Given.{Given}
use Rattle.loop_run.specs.declared.refusal.MakeRefusal.{MakeRefusal}
use Rattle.loop_run.specs.declared.refusal.MakeRefusal.TheVariants as refusal
use Rattle.program_run.specs.Ran.{IsRun}
use Rattle.program_run.specs.declared.run.Ran.{Ran}
use Rattle.run_text.specs.Outputs.{run_text}
use Rattle.run_text.specs.Told.{Answers, IsRunText, fault_of, told}
use Rattle.run_text.specs.declared.fault.RunFault.{RunFault}

abbrev text_found : Text → Result Text RunFault
text_found z = Ok z

same_text : (z t : Text) → text_found z ≡ text_found t → t ≡ z
same_text z t e = cc

module _ (A : Type 0) (names : List Text) where
  pub told-ok : (r : Ran) (x : Result Ran MakeRefusal) (t : Result (Vec ℕ A) RunFault) → Ok r ≡ x → Answers (told names (Ok r)) t → Answers (told names x) t
  told-ok r x t e h = subst (λ (y : Result Ran MakeRefusal). Answers (told names y) t) e h

  fault-told : (e : MakeRefusal) (x : Result Ran MakeRefusal) → IsAnswer (Err e) x → Answers {A = A} (told names x) (Err (fault_of e))
  fault-told (refusal.Stuck k) x h = ap (told names) (sym h)
  fault-told (refusal.TooBigToRun n) x h = ap (told names) (sym h)
  fault-told (refusal.WrongCount k n m) x h = ap (told names) (sym h)
  fault-told refusal.Memory x h = tt

  pub told-err : (e : MakeRefusal) (x : Result Ran MakeRefusal) (k : RunFault) → k ≡ fault_of e → IsAnswer (Err e) x → Answers {A = A} (told names x) (Err k)
  told-err e x k same h = subst (λ (f : RunFault). Answers {A = A} (told names x) (Err f)) (sym same) (fault-told e x h)

  pub text-run : (p : Prog) (g : Given) (r : Ran) (t : Result (Vec ℕ A) RunFault) → IsRun p g r → Answers (told names (Ok r)) t
      → IfOk t (λ text. IsRunText p g names text.items)
  text-run p g r (Ok text) run h =
      record { left = r; run = run; tells = same_text (run_text names r.buffers.memory.outputs r.stores) text.items h }
  text-run p g r (Err e) run h = tt
