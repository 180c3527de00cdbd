-- The names of sizes, inputs and outputs in a C text.
use Rattle.std.specs.Prelude.{ℕ, List, map}
use Rattle.std.specs.List.{range_with_len}
use Rattle.text_tokens.specs.Kinds.{Text}
use Rattle.loop_lang.specs.declared.word.Buf.TheVariants.{Input, Output}
use Rattle.c_print.specs.Index.{size_name}
use Rattle.c_print.specs.Word.{buffer_name}

-- n0, n1, ..
abbrev pub size_names : ℕ → List Text
size_names n = map size_name (range_with_len 0 n)

-- a0, a1, ..
abbrev pub input_names : ℕ → List Text
input_names n = map (λ k. buffer_name (Input k)) (range_with_len 0 n)

-- b0, b1, ..
abbrev pub output_names : ℕ → List Text
output_names n = map (λ k. buffer_name (Output k)) (range_with_len 0 n)
