-- The texts of a trial of so many steps: its source, its script, what its run is given, and its line.
use Rattle.std.specs.Prelude.{ℕ, zero, suc, ◌+◌, ◌*◌, ◌%◌, ◌^◌, List, [], ◌∷◌, ◌++◌, codes, decimal}
use Rattle.text_tokens.specs.Kinds.{Text}
use Rattle.given_text.specs.Line.{output_line}

-- the tensors in turn: the input, then what each let defines
abbrev pub tensor_name : ℕ → Text
tensor_name zero = codes "A"
tensor_name (suc n) = codes "x" ++ decimal (suc n)

-- the let of this number, from 0: sums over windows of the tensor before, which ends where it ends
abbrev pub let_text : ℕ → Text
let_text n =
    codes "  let " ++ tensor_name (suc n) ++ codes " = gen i < N. sum j < 3. (guard i + j < N. " ++ tensor_name n ++ codes "[i + j]) * W[j] in\n"

-- the first lets
abbrev pub lets_text : ℕ → Text
lets_text zero = []
lets_text (suc n) = lets_text n ++ let_text n

-- the squares of a tensor
abbrev pub squares_text : ℕ → Text
squares_text n = codes "  gen i < N. " ++ tensor_name n ++ codes "[i] * " ++ tensor_name n ++ codes "[i];\n"

-- what stands before the lets
abbrev pub source_head : Text
source_head = codes "atl 1;\nsize N in 1..100000;\nexample N = 1000;\ninput A[N];\ninput W[3];\noutput B =\n"

-- the source: so many lets, each over the one before, and the squares of the last
unfoldable pub trial_source : ℕ → Text
trial_source k = source_head ++ lets_text k ++ squares_text k

-- so many steps into bodies of lets
abbrev pub bodies_text : ℕ → Text
bodies_text zero = []
bodies_text (suc n) = bodies_text n ++ codes ".1"

-- tiles of 8 at the definition of the let of this number
abbrev pub step_text : ℕ → Text
step_text n = codes "at 0" ++ bodies_text n ++ codes ".0 do split_gen(8);\n"

-- the first steps
abbrev pub steps_text : ℕ → Text
steps_text zero = []
steps_text (suc n) = steps_text n ++ step_text n

-- the script: tiles of 8 at each definition, from the first
unfoldable pub trial_script : ℕ → Text
trial_script k = codes "schedule 1;\n" ++ steps_text k

-- the generator's next number
abbrev pub stepped : ℕ → ℕ
stepped x = (x * 6364136223846793005 + 1442695040888963407) % 2 ^ 64

-- the generator's number after so many steps from this one
abbrev pub stepped_on : ℕ → ℕ → ℕ
stepped_on x zero = x
stepped_on x (suc n) = stepped (stepped_on x n)

-- so many words, each the generator's next number, from this one
abbrev pub words_from : ℕ → ℕ → List ℕ
words_from x zero = []
words_from x (suc n) = words_from x n ++ stepped (stepped_on x n) ∷ []

-- lines of a size and of two inputs of so many words each, those of the generator from this number on
unfoldable pub given_from : ℕ → ℕ → ℕ → ℕ → Text
given_from size x n m =
    output_line (codes "N") (size ∷ []) ++ output_line (codes "A") (words_from x n) ++ output_line (codes "W") (words_from (stepped_on x n) m)

-- what the run is given: the size 1000, and the words of the generator from 1, first those of A, then those of W
unfoldable pub trial_given : Text
trial_given = given_from 1000 1 1000 3

-- a number after its name
abbrev pub named_number : Text → ℕ → Text
named_number name n = name ++ decimal n

-- The line of a trial of so many steps: the nodes of the last version, the steps of the script, the bytes of the C text, the words stored, and the sum of the
-- output words.
unfoldable pub trial_line : ℕ → ℕ → ℕ → ℕ → ℕ → Text
trial_line k nodes bytes stores total =
    named_number (codes "trial ") k ++ named_number (codes " nodes ") nodes ++ named_number (codes " steps ") k ++ named_number (codes " bytes ") bytes
    ++ named_number (codes " stores ") stores ++ named_number (codes " sum ") total ++ codes "\n"
