-- The text of programs.
use Rattle.std.specs.Prelude.{ℕ, zero, suc, List, [], ◌∷◌, ◌++◌, codes, map}
use Rattle.std.specs.List.{flat_map, range_with_len, zip}
use Rattle.loop_lang.specs.declared.index.Iexp.{Iexp}
use Rattle.loop_lang.specs.declared.word.Buf.{Buf}
use Rattle.loop_lang.specs.declared.word.Buf.TheVariants.{Input, Output, Scratch}
use Rattle.loop_lang.specs.declared.stmt.Prog.{Prog}
use Rattle.c_print.specs.declared.level.Level.TheVariants.{Choice}
use Rattle.c_print.specs.Level.{Text}
use Rattle.c_print.specs.Index.{index_text, size_name}
use Rattle.c_print.specs.Word.{buffer_name}
use Rattle.c_print.specs.Statement.{statement_text}

-- the three lines that each text begins with
abbrev pub heading : Text
heading = codes "#include <stdint.h>\nstatic int64_t top(int64_t x, int64_t y) { return x > y ? x : y; }\nstatic void fill(uint64_t *p, int64_t at, int64_t n) { for (int64_t i = 0; i < n; i = i + 1) p[at + i] = 0; }\n"

-- the buffers of a program: inputs, then outputs, then scratch
abbrev pub buffers : Prog → List Buf
buffers p = map Input (range_with_len 0 p.inputs) ++ map Output (range_with_len 0 p.outputs) ++ map Scratch (range_with_len 0 p.scratch)

-- a size as a parameter
abbrev pub size_parameter : ℕ → Text
size_parameter k = codes "int64_t " ++ size_name k

-- what a parameter points to: inputs are only read
abbrev pub pointer_text : Buf → Text
pointer_text (Input k) = codes "const uint64_t *"
pointer_text (Output k) = codes "uint64_t *"
pointer_text (Scratch k) = codes "uint64_t *"

-- a buffer as a parameter
abbrev pub buffer_parameter : Buf → Text
buffer_parameter b = pointer_text b ++ buffer_name b

-- one text more
abbrev pub after_comma : Text → Text
after_comma t = codes ", " ++ t

-- texts with commas between them
abbrev pub with_commas : List Text → Text
with_commas [] = []
with_commas (t ∷ ts) = t ++ flat_map after_comma ts

-- all sizes as parameters
abbrev pub size_parameters : ℕ → List Text
size_parameters n = map size_parameter (range_with_len 0 n)

-- the parameters of a length: the sizes, or the word `void` where there is none
abbrev pub sizes_text : ℕ → Text
sizes_text zero = codes "void"
sizes_text (suc n) = with_commas (size_parameters (suc n))

-- the function that answers the length of a buffer
abbrev pub length_line : ℕ → Buf → Iexp → Text
length_line sizes b n = codes "int64_t len_" ++ buffer_name b ++ codes "(" ++ sizes_text sizes ++ (codes ") { return " ++ index_text n Choice ++ codes "; }\n")

-- the same of a pair
abbrev pub length_entry : ℕ → Buf × Iexp → Text
length_entry sizes e = length_line sizes e.0 e.1

-- a line for each buffer and its length, in order
abbrev pub length_lines : ℕ → List Buf → List Iexp → Text
length_lines sizes bs ns = flat_map (length_entry sizes) (zip bs ns)

-- the parameters of the function: sizes, then buffers
abbrev pub parameters : Prog → Text
parameters p = with_commas (size_parameters p.sizes ++ map buffer_parameter (buffers p))

-- the function that runs the program
abbrev pub function_text : Prog → Text
function_text p = codes "void atl(" ++ parameters p ++ codes ") {\n" ++ statement_text p.body 1 0 ++ codes "}\n"

-- the C text of a program: the heading, the lengths and the function
unfoldable pub canonical_text : Prog → Text
canonical_text p = heading ++ length_lines p.sizes (buffers p) p.lengths ++ function_text p
