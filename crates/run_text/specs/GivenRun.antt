-- What a program on a given text comes to, where its sizes, inputs and outputs have these names and sizes may break a constraint.
use Rattle.std.specs.Prelude.{◌≡◌, ℕ, List, Option, Some, None, Result, Ok, Err, ⊤}
use Rattle.text_tokens.specs.Kinds.{Text}
use Rattle.loop_lang.specs.declared.stmt.Prog.{Prog}
use Rattle.loop_run.specs.declared.given.Given.{Given}
use Rattle.loop_run.specs.declared.refusal.MakeRefusal.{MakeRefusal}
use Rattle.given_text.specs.Answer.{IsRefusedText, read_bytes}
use Rattle.given_text.specs.Given.{GivenText}
use Rattle.given_text.specs.declared.fault.GivenFault.{GivenFault}
use Rattle.given_text.specs.declared.fault.GivenFault.TheVariants as bad
use Rattle.program_run.specs.Ran.{ran}
use Rattle.run_text.specs.Told.{IsRunText, fault_of, told}
use Rattle.run_text.specs.declared.fault.RunFault.{RunFault}
use Rattle.run_text.specs.declared.fault.RunFault.TheVariants as f

-- how sizes, inputs and outputs are named, in order
pub record Names : Type 0 where
  pub sizes : List Text
  pub inputs : List Text
  pub outputs : List Text

-- a run on what is given, whose sizes break this constraint first, or none
abbrev pub checked_run : List Text → Prog → Given → Option ℕ → Result Text RunFault
checked_run outputs p g None = told outputs (ran p g)
checked_run outputs p g (Some constraint) = Err (f.SizesNotAllowed constraint)

module _ (names : Names) (broken : List ℕ → Option ℕ) (p : Prog) where
  -- a run on what was read
  abbrev pub run_read : Result Given GivenFault → Result Text RunFault
  run_read (Ok g) = checked_run names.outputs p g (broken g.sizes)
  run_read (Err (bad.BadData at)) = Err (f.BadData at)
  run_read (Err bad.Memory) = Err f.Memory

  -- the text of a run on a given text, or the first fault: of the given text, of its sizes, of the run
  unfoldable pub given_run : Text → Result Text RunFault
  given_run z = run_read (read_bytes names.sizes names.inputs z)

  -- the given text gives sizes that break no constraint and inputs, and the text tells a run on them
  pub record IsToldRun (z text : Text) : Type 0 where
    pub gives : Given
    pub reads : GivenText names.sizes names.inputs z gives
    pub sizes : broken gives.sizes ≡ None
    pub run : IsRunText p gives names.outputs text

  -- the given text gives sizes that break this constraint first
  pub record IsBroken (z : Text) (constraint : ℕ) : Type 0 where
    pub gives : Given
    pub reads : GivenText names.sizes names.inputs z gives
    pub sizes : broken gives.sizes ≡ Some constraint

  -- the given text gives sizes that break no constraint and inputs, and a run on them is refused so
  pub record IsRefusedRun (z : Text) (fault : RunFault) : Type 0 where
    pub gives : Given
    pub reads : GivenText names.sizes names.inputs z gives
    pub sizes : broken gives.sizes ≡ None
    pub refusal : MakeRefusal
    pub comes : ran p gives ≡ Err refusal
    pub same : fault ≡ fault_of refusal

  -- why there is no text of a run on the given text; want of memory says nothing
  abbrev pub IsRunFault : Text → RunFault → Type 0
  IsRunFault z (f.BadData at) = IsRefusedText names.sizes names.inputs z (bad.BadData at)
  IsRunFault z (f.SizesNotAllowed constraint) = IsBroken z constraint
  IsRunFault z (f.Stuck stuck) = IsRefusedRun z (f.Stuck stuck)
  IsRunFault z (f.TooBigToRun words) = IsRefusedRun z (f.TooBigToRun words)
  IsRunFault z (f.WrongCount input want got) = IsRefusedRun z (f.WrongCount input want got)
  IsRunFault z f.Memory = ⊤
