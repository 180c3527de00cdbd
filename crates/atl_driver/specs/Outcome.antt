-- What the program decides about its words and files, and what may then stand on its sinks.
use Rattle.std.specs.Prelude.{◌≡◌, ℕ, List, Some, None, Ok, Err, ⊤}
use Rattle.std.specs.declared.option.Option.{Option}
use Rattle.std.specs.declared.result.Result.{Result}
use Rattle.atl_driver.specs.Compile.{decided}
use Rattle.atl_driver.specs.Correct.{IsRight, HasFault}
use Rattle.atl_driver.specs.Form.{Form}
use Rattle.atl_driver.specs.Reading.{EachMayBe, StopsFor}
use Rattle.atl_driver.specs.declared.fault.Fault.{Fault}
use Rattle.atl_driver.specs.declared.refusal.Refusal.{Refusal}
use Rattle.atl_driver.specs.declared.refusal.Refusal.TheVariants.{Refused, Usage, ReadFault, TooLong, Memory}
use Rattle.atl_driver.specs.declared.status.Status.{Status}
use Rattle.atl_driver.specs.declared.status.Status.TheVariants as status

-- the status that tells a refusal
abbrev pub status_of : Refusal → Status
status_of (Refused fault) = status.Refused fault
status_of Usage = status.Usage
status_of ReadFault = status.ReadFault
status_of TooLong = status.TooLong 1048577
status_of Memory = status.Memory

-- the status after a decision, where nothing fails
abbrev pub status_after : Result (List ℕ) Fault → Status
status_after (Ok text) = status.Done
status_after (Err fault) = status.Refused fault

-- the files before and after a call, by what they tell
module _ {F : Type 0} (held : F → List ℕ → Option (List ℕ)) (faults taken : F → List ℕ → ℕ) (old new : F) where
  -- what the command came to on contents that the reads of its files may have answered
  pub record Came (form : Option Form) (answer : Result (List ℕ) Fault) : Type 0 where
    pub command : Form
    pub contents : List (List ℕ)
    pub read_as : form ≡ Some command
    pub read : EachMayBe (held old) command.files contents
    pub decides : decided command.verb contents ≡ answer

  -- the reads of the command's files stopped, so that nothing was decided on their contents
  pub record Stopped (form : Option Form) (refusal : Refusal) : Type 0 where
    pub command : Form
    pub read_as : form ≡ Some command
    pub why : StopsFor held faults taken old new refusal command.files

  -- the text that is due on `out`: what the contents come to, which is right for them
  pub record IsText (form : Option Form) (text : List ℕ) : Type 0 where
    pub came : Came form (Ok text)
    pub right : IsRight came.command.verb came.contents text

  -- the fault that is due on `err`: what the contents come to, which has its cause in them
  pub record IsFault (form : Option Form) (fault : Fault) : Type 0 where
    pub came : Came form (Err fault)
    pub cause : HasFault came.command.verb came.contents fault

  -- why the program may refuse
  abbrev pub IsCause : Option Form → Refusal → Type 0
  IsCause form (Refused fault) = IsFault form fault
  IsCause form Usage = form ≡ None
  IsCause form ReadFault = Stopped form ReadFault
  IsCause form TooLong = Stopped form TooLong
  IsCause form Memory = ⊤
