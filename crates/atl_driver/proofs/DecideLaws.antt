-- What was read and compiled, as what the program decided.
use Rattle.std.proofs.Common.{◌≡◌, ℕ, List, Some, Ok, Err}
use Rattle.std.specs.declared.option.Option.{Option}
use Rattle.atl_driver.specs.Compile.{decided}
use Rattle.atl_driver.specs.Correct.{IsRight, HasFault}
use Rattle.atl_driver.specs.Form.{Form}
use Rattle.atl_driver.specs.Outcome.{Came, IsText, IsFault}
use Rattle.atl_driver.specs.Reading.{EachMayBe}
use Rattle.atl_driver.specs.declared.fault.Fault.{Fault}

module _ {F : Type 0} (held : F → List ℕ → Option (List ℕ)) (faults taken : F → List ℕ → ℕ) (old new : F)
    (form : Option Form) (command : Form) (contents : List (List ℕ)) (read_as : form ≡ Some command)
    (read : EachMayBe (held old) command.files contents) where
  pub text_came : (text : List ℕ) → decided command.verb contents ≡ Ok text → IsRight command.verb contents text → IsText held faults taken old new form text
  text_came text decides right =
      let came : Came held faults taken old new form (Ok text) = record {
        command = command;
        contents = contents;
        read_as = read_as;
        read = read;
        decides = decides;
      } in
      record { came = came; right = right }

  pub fault_came : (fault : Fault) → decided command.verb contents ≡ Err fault → HasFault command.verb contents fault
      → IsFault held faults taken old new form fault
  fault_came fault decides cause =
      let came : Came held faults taken old new form (Err fault) = record {
        command = command;
        contents = contents;
        read_as = read_as;
        read = read;
        decides = decides;
      } in
      record { came = came; cause = cause }
