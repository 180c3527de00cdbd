-- The text that a run writes: a line for each output, and how many words were stored.
use Rattle.std.specs.Prelude.{ℕ, List, [], ◌∷◌, ◌++◌, codes, decimal}
use Rattle.text_tokens.specs.Kinds.{Text}
use Rattle.given_text.specs.Line.{output_line}

-- the lines of outputs with these names, in order; an output that is not there has no words
abbrev pub output_lines : List Text → List (List ℕ) → Text
output_lines [] outputs = []
output_lines (name ∷ names) [] = output_line name [] ++ output_lines names []
output_lines (name ∷ names) (words ∷ outputs) = output_line name words ++ output_lines names outputs

-- how many words were stored
abbrev pub stores_line : ℕ → Text
stores_line stores = codes "stores " ++ decimal stores ++ codes "\n"

-- all that a run writes
unfoldable pub run_text : List Text → List (List ℕ) → ℕ → Text
run_text names outputs stores = output_lines names outputs ++ stores_line stores
