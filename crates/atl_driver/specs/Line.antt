-- The line that a refusal puts on `err`.
use Rattle.std.specs.Prelude.{ℕ, List, [], ◌∷◌, ◌++◌, codes, decimal, flat_map, nat_lt, if◌then◌else◌}
use Rattle.std.specs.Fmt.{signed_decimal}
use Rattle.atl_driver.specs.Names.{fault_name}
use Rattle.atl_driver.specs.declared.fault.Fault.{Fault}
use Rattle.atl_driver.specs.declared.fault.FaultField.{FaultField}
use Rattle.atl_driver.specs.declared.fault.FaultField.TheVariants as field
use Rattle.atl_driver.specs.declared.refusal.Refusal.{Refusal}
use Rattle.atl_driver.specs.declared.refusal.Refusal.TheVariants.{Refused, Usage, ReadFault, TooLong, Memory}
use Rattle.c_print.specs.Word.{buffer_name}
use Rattle.term_tree.specs.declared.term.Path.{Path}

-- a further step of a path, behind a dot
abbrev pub step_text : ℕ → List ℕ
step_text step = codes "." ++ decimal step

-- a path: its output and its steps, with dots between
abbrev pub path_text : Path → List ℕ
path_text path = decimal path.output ++ flat_map step_text path.steps

-- the word of a field
abbrev pub field_word : FaultField → List ℕ
field_word (field.At at) = codes "at"
field_word (field.Path path) = codes "path"
field_word (field.Input input) = codes "input"
field_word (field.Step step) = codes "step"
field_word (field.Condition condition) = codes "condition"
field_word (field.Goal goal) = codes "goal"
field_word (field.Constraint constraint) = codes "constraint"
field_word (field.Index index) = codes "index"
field_word (field.Final line) = codes "final"
field_word (field.Nodes nodes) = codes "nodes"
field_word (field.Words words) = codes "words"
field_word (field.Steps steps) = codes "steps"
field_word (field.Actions actions) = codes "actions"
field_word (field.Want want) = codes "want"
field_word (field.Got got) = codes "got"
field_word (field.Outside buffer index) = codes "outside"
field_word field.Overflow = codes "overflow"
field_word field.Negative = codes "negative"

-- a number behind a space
abbrev pub number_text : ℕ → List ℕ
number_text number = codes " " ++ decimal number

-- the value of a field, behind a space, where the field has one
abbrev pub field_value : FaultField → List ℕ
field_value (field.At at) = number_text at
field_value (field.Path path) = codes " " ++ path_text path
field_value (field.Input input) = number_text input
field_value (field.Step step) = number_text step
field_value (field.Condition condition) = number_text condition
field_value (field.Goal goal) = number_text goal
field_value (field.Constraint constraint) = number_text constraint
field_value (field.Index index) = number_text index
field_value (field.Final line) = number_text line
field_value (field.Nodes nodes) = number_text nodes
field_value (field.Words words) = number_text words
field_value (field.Steps steps) = number_text steps
field_value (field.Actions actions) = number_text actions
field_value (field.Want want) = number_text want
field_value (field.Got got) = number_text got
field_value (field.Outside buffer index) = codes " " ++ (buffer_name buffer ++ 32 ∷ signed_decimal index)
field_value field.Overflow = []
field_value field.Negative = []

-- a field behind a space
abbrev pub field_text : FaultField → List ℕ
field_text f = codes " " ++ field_word f ++ field_value f

-- the number of a fault, of two digits at least, and its name
abbrev pub fault_head : ℕ → List ℕ
fault_head number = (if nat_lt number 10 then codes "F0" else codes "F") ++ (decimal number ++ 32 ∷ fault_name number)

-- the number, the name and the fields of a fault, with a line end
abbrev pub fault_line : Fault → List ℕ
fault_line fault = fault_head fault.number ++ flat_map field_text fault.fields ++ 10 ∷ []

-- the line of a refusal
abbrev pub line_of : Refusal → List ℕ
line_of (Refused fault) = fault_line fault
line_of Usage =
    codes "usage: atl compile SRC [SCHED] | stages SRC SCHED | facts SRC SCHED | run [--plain] SRC SCHED GIVEN | exec CFILE GIVEN | trial K" ++ 10 ∷ []
line_of ReadFault = codes "ReadFault" ++ 10 ∷ []
line_of TooLong = codes "TooLong taken 1048577" ++ 10 ∷ []
line_of Memory = codes "Memory" ++ 10 ∷ []
