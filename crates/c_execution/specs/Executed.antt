-- What executing a C text on a given text comes to.
use Rattle.std.specs.Prelude.{◌≡◌, ℕ, suc, if◌then◌else◌, nat_le, List, [], ◌∷◌, Option, Some, None, Result, Ok, Err, ⊤}
use Rattle.std.specs.declared.vec.Vec.{Vec}
use Rattle.text_tokens.specs.Kinds.{Text}
use Rattle.reader_laws.specs.declared.fault.ReadError.{ReadError}
use Rattle.reader_laws.specs.declared.fault.ReadError.TheVariants as early
use Rattle.loop_lang.specs.declared.stmt.Prog.{Prog}
use Rattle.run_text.specs.GivenRun.{IsRunFault, IsToldRun, Names, given_run}
use Rattle.run_text.specs.declared.fault.RunFault.{RunFault}
use Rattle.run_text.specs.declared.fault.RunFault.TheVariants as f
use Rattle.c_text.specs.Statement.{CText}
use Rattle.c_read.specs.Units.{read_text}
use Rattle.c_reader.specs.Fault.{IsBadAt, IsOfNoOther}
use Rattle.c_execution.specs.Names.{input_names, output_names, size_names}
use Rattle.c_execution.specs.declared.fault.ExecFault.{ExecFault}
use Rattle.c_execution.specs.declared.fault.ExecFault.TheVariants as e

-- the largest size
abbrev pub largest_size : ℕ
largest_size = 1099511627776

-- the number of the first size over 2^40, where the first of all has this number
abbrev pub broken_size : ℕ → List ℕ → Option ℕ
broken_size number [] = None
broken_size number (n ∷ ns) = if nat_le n largest_size then broken_size (suc number) ns else Some number

-- the first size over 2^40, counted from 1
abbrev pub broken_from_1 : List ℕ → Option ℕ
broken_from_1 ns = broken_size 1 ns

-- n0, n1, .. and a0, a1, .. and b0, b1, ..
abbrev pub names_of : Prog → Names
names_of p = record { sizes = size_names p.sizes; inputs = input_names p.inputs; outputs = output_names p.outputs }

module _ (p : Prog) where
  -- the program on a given text
  abbrev pub executed : Text → Result Text RunFault
  executed = given_run (names_of p) broken_from_1 p

  -- the text tells a run of the program on what the given text gives, each size of which is at most 2^40
  abbrev pub IsToldOf : Text → Text → Type 0
  IsToldOf = IsToldRun (names_of p) broken_from_1 p

  -- why the program has no text on the given text
  abbrev pub IsFaultOf : Text → RunFault → Type 0
  IsFaultOf = IsRunFault (names_of p) broken_from_1 p

-- the answer of a run, as one of an execution
abbrev pub as_exec : Result Text RunFault → Result Text ExecFault
as_exec (Ok text) = Ok text
as_exec (Err fault) = Err (e.Run fault)

-- the program that was read, on a given text
abbrev pub exec_read : Result Prog ReadError → Text → Result Text ExecFault
exec_read (Ok p) given = as_exec (executed p given)
exec_read (Err (early.Refused fault at)) given = Err (e.BadC at)
exec_read (Err early.Memory) given = Err (e.Run f.Memory)

-- the text that executing a C text on a given text writes, or the first fault
unfoldable pub exec_answer : Text → Text → Result Text ExecFault
exec_answer c given = exec_read (read_text c) given

-- the C text stands for one program alone, and the text tells a run of it
pub record IsExecuted (c given text : Text) : Type 0 where
  pub program : Prog
  pub reads : CText c program
  pub alone : IsOfNoOther c program
  pub told : IsToldOf program given text

-- the C text stands for one program alone, and this is why it has no text on the given text
pub record IsRefusedProgram (c given : Text) (fault : RunFault) : Type 0 where
  pub program : Prog
  pub reads : CText c program
  pub alone : IsOfNoOther c program
  pub why : IsFaultOf program given fault

-- why executing comes to no text; want of memory says nothing
abbrev pub IsExecFault : Text → Text → ExecFault → Type 0
IsExecFault c given (e.BadC at) = IsBadAt c at
IsExecFault c given (e.Run f.Memory) = ⊤
IsExecFault c given (e.Run fault) = IsRefusedProgram c given fault

module _ {A : Type 0} where
  -- the answer is this one, but for want of memory
  abbrev pub Answers : Result Text ExecFault → Result (Vec ℕ A) ExecFault → Type 0
  Answers due (Ok text) = due ≡ Ok text.items
  Answers due (Err (e.Run f.Memory)) = ⊤
  Answers due (Err fault) = due ≡ Err fault
