-- From what reading and running say to what a run on a given text says.
use Rattle.std.proofs.Common.{◌≡◌, ◌≢◌, ℕ, List, Option, Some, None, Result, Ok, Err, refl, ap, sym, subst}
use Rattle.std.specs.Prelude.{IfErr, IfOk}
use Rattle.std.specs.declared.vec.Vec.{Vec}
use Rattle.text_tokens.specs.Kinds.{Text}
use Rattle.loop_lang.specs.declared.stmt.Prog.{Prog}
use Rattle.loop_run.specs.declared.given.Given.{Given}
use Rattle.loop_run.specs.declared.refusal.MakeRefusal.{MakeRefusal}
use Rattle.loop_run.specs.declared.refusal.MakeRefusal.TheVariants as refusal
use Rattle.given_text.specs.Answer.{read_bytes}
use Rattle.given_text.specs.Answer as answer
use Rattle.given_text.specs.Given.{GivenText}
use Rattle.given_text.specs.declared.fault.GivenFault.{GivenFault}
use Rattle.given_text.specs.declared.fault.GivenFault.TheVariants as bad
use Rattle.program_run.specs.Ran.{ran}
use Rattle.program_run.specs.declared.run.Ran.{Ran}
use Rattle.run_text.specs.GivenRun.{IsBroken, IsRefusedRun, IsRunFault, IsToldRun, Names, checked_run, given_run, run_read}
use Rattle.run_text.specs.Told.{Answers, IsRunText, fault_of, told}
use Rattle.run_text.specs.declared.fault.RunFault.{RunFault}
use Rattle.run_text.specs.declared.fault.RunFault.TheVariants as f

abbrev fault_so : RunFault → Result Text RunFault
fault_so k = Err k

same_fault : (k l : RunFault) → fault_so k ≡ fault_so l → l ≡ k
same_fault k l h = cc

module _ (A : Type 0) (names : Names) (broken : List ℕ → Option ℕ) (p : Prog) where
  -- what was read decides the answer
  pub answer-given : (z : Text) (g : Given) (r : Result (Vec ℕ A) RunFault) → answer.Answers (Ok g) (read_bytes names.sizes names.inputs z)
      → Answers (checked_run names.outputs p g (broken g.sizes)) r → Answers (given_run names broken p z) r
  unfolding given_run
  answer-given z g r is h = subst (λ (x : Result Given GivenFault). Answers (run_read names broken p x) r) (sym is) h

  pub answer-bad : (z : Text) (at : ℕ) → answer.Answers (Err (bad.BadData at)) (read_bytes names.sizes names.inputs z)
      → Answers {A = A} (given_run names broken p z) (Err (f.BadData at))
  unfolding given_run
  answer-bad z at is = ap (run_read names broken p) (is (λ (q : bad.BadData at ≡ bad.Memory). cc))

  pub told-run : (z : Text) (g : Given) (r : Result (Vec ℕ A) RunFault) → GivenText names.sizes names.inputs z g
      → IfOk r (λ text. (broken g.sizes ≡ None) × IsRunText p g names.outputs text.items) → IfOk r (λ text. IsToldRun names broken p z text.items)
  told-run z g (Ok text) reads h = record { gives = g; reads = reads; sizes = h.0; run = h.1 }
  told-run z g (Err k) reads h = tt

  module _ (z : Text) (g : Given) (reads : GivenText names.sizes names.inputs z g) where
    refused : (small : broken g.sizes ≡ None) (e : MakeRefusal) (k : RunFault) → ran p g ≡ Err e → k ≡ fault_of e → IsRefusedRun names broken p z k
    refused small e k comes same = record { gives = g; reads = reads; sizes = small; refusal = e; comes = comes; same = same }

    -- the cause of a fault, from which answer it is
    caused : (k : RunFault) → broken g.sizes ≡ None → (x : Result Ran MakeRefusal) → ran p g ≡ x → told names.outputs x ≡ Err k → k ≢ f.Memory
        → IsRunFault names broken p z k
    caused k small (Ok r) is h other = absurd cc
    caused k small (Err refusal.Memory) is h other = absurd (other (same_fault f.Memory k h))
    caused k small (Err (refusal.Stuck s)) is h other =
        subst (IsRunFault names broken p z) (sym (same_fault (f.Stuck s) k h)) (refused small (refusal.Stuck s) (f.Stuck s) is refl)
    caused k small (Err (refusal.TooBigToRun words)) is h other =
        subst (IsRunFault names broken p z) (sym (same_fault (f.TooBigToRun words) k h))
        (refused small (refusal.TooBigToRun words) (f.TooBigToRun words) is refl)
    caused k small (Err (refusal.WrongCount i n m)) is h other =
        subst (IsRunFault names broken p z) (sym (same_fault (f.WrongCount i n m) k h))
        (refused small (refusal.WrongCount i n m) (f.WrongCount i n m) is refl)

    caused-on : (k : RunFault) (o : Option ℕ) → broken g.sizes ≡ o → checked_run names.outputs p g o ≡ Err k → k ≢ f.Memory → IsRunFault names broken p z k
    caused-on k None small h other = caused k small (ran p g) refl h other
    caused-on k (Some constraint) breaks h other =
        let cause : IsBroken names broken p z constraint = record { gives = g; reads = reads; sizes = breaks } in
        subst (IsRunFault names broken p z) (sym (same_fault (f.SizesNotAllowed constraint) k h)) cause

    is_fault : (due : Result Text RunFault) (k : RunFault) → Answers {A = A} due (Err k) → k ≢ f.Memory → due ≡ Err k
    is_fault due (f.BadData at) h other = h
    is_fault due (f.SizesNotAllowed constraint) h other = h
    is_fault due (f.Stuck s) h other = h
    is_fault due (f.TooBigToRun words) h other = h
    is_fault due (f.WrongCount i n m) h other = h
    is_fault due f.Memory h other = absurd (other refl)

    unless_memory : (k : RunFault) → (k ≢ f.Memory → IsRunFault names broken p z k) → IsRunFault names broken p z k
    unless_memory (f.BadData at) h = h (λ (q : f.BadData at ≡ f.Memory). cc)
    unless_memory (f.SizesNotAllowed constraint) h = h (λ (q : f.SizesNotAllowed constraint ≡ f.Memory). cc)
    unless_memory (f.Stuck s) h = h (λ (q : f.Stuck s ≡ f.Memory). cc)
    unless_memory (f.TooBigToRun words) h = h (λ (q : f.TooBigToRun words ≡ f.Memory). cc)
    unless_memory (f.WrongCount i n m) h = h (λ (q : f.WrongCount i n m ≡ f.Memory). cc)
    unless_memory f.Memory h = tt

    pub cause-given : (r : Result (Vec ℕ A) RunFault) → Answers (checked_run names.outputs p g (broken g.sizes)) r
        → IfErr r (λ k. IsRunFault names broken p z k)
    cause-given (Ok text) h = tt
    cause-given (Err k) h =
        unless_memory k (λ (other : k ≢ f.Memory). caused-on k (broken g.sizes) refl (is_fault (checked_run names.outputs p g (broken g.sizes)) k h other) other)
