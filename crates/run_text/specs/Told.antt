-- What a run is told as.
use Rattle.std.specs.Prelude.{◌≡◌, ℕ, List, Result, Ok, Err, ⊤}
use Rattle.std.specs.declared.vec.Vec.{Vec}
use Rattle.text_tokens.specs.Kinds.{Text}
use Rattle.loop_lang.specs.declared.stmt.Prog.{Prog}
use Rattle.loop_run.specs.declared.given.Given.{Given}
use Rattle.loop_run.specs.declared.refusal.MakeRefusal.{MakeRefusal}
use Rattle.loop_run.specs.declared.refusal.MakeRefusal.TheVariants as refusal
use Rattle.program_run.specs.Ran.{IsRun}
use Rattle.program_run.specs.declared.run.Ran.{Ran}
use Rattle.run_text.specs.Outputs.{run_text}
use Rattle.run_text.specs.declared.fault.RunFault.{RunFault}
use Rattle.run_text.specs.declared.fault.RunFault.TheVariants as f

abbrev pub fault_of : MakeRefusal → RunFault
fault_of (refusal.Stuck stuck) = f.Stuck stuck
fault_of (refusal.TooBigToRun words) = f.TooBigToRun words
fault_of (refusal.WrongCount input want got) = f.WrongCount input want got
fault_of refusal.Memory = f.Memory

-- the text of what a run leaves, in outputs of these names, or its fault
abbrev pub told : List Text → Result Ran MakeRefusal → Result Text RunFault
told names (Ok r) = Ok (run_text names r.buffers.memory.outputs r.stores)
told names (Err e) = Err (fault_of e)

-- the text tells what a run of the program on what is given leaves
pub record IsRunText (p : Prog) (g : Given) (names : List Text) (text : Text) : Type 0 where
  pub left : Ran
  pub run : IsRun p g left
  pub tells : text ≡ run_text names left.buffers.memory.outputs left.stores

module _ {A : Type 0} where
  -- the answer is this one, but for want of memory
  abbrev pub Answers : Result Text RunFault → Result (Vec ℕ A) RunFault → Type 0
  Answers due (Ok text) = due ≡ Ok text.items
  Answers due (Err f.Memory) = ⊤
  Answers due (Err fault) = due ≡ Err fault
