-- The line of an output.
use Rattle.std.specs.Prelude.{ℕ, List, ◌++◌, codes, decimal, flat_map}
use Rattle.text_tokens.specs.Kinds.{Text}

-- a word after a space
abbrev pub spaced : ℕ → Text
spaced w = codes " " ++ decimal w

-- the name and a colon, the words, a semicolon and a line feed
abbrev pub output_line : Text → List ℕ → Text
output_line name ws = name ++ codes ":" ++ flat_map spaced ws ++ codes ";\n"
