-- The text of statements.
use Rattle.std.specs.Prelude.{ℕ, zero, suc, ◌+◌, Bool, true, false, List, [], ◌++◌, codes}
use Rattle.std.specs.List.{flat_map}
use Rattle.loop_lang.specs.declared.index.Iexp.{Iexp}
use Rattle.loop_lang.specs.declared.index.Test.{Test}
use Rattle.loop_lang.specs.declared.word.Buf.{Buf}
use Rattle.loop_lang.specs.declared.word.Wexp.{Wexp}
use Rattle.loop_lang.specs.declared.stmt.Stmt.{Stmt}
use Rattle.loop_lang.specs.declared.stmt.Stmt.TheOpen.{Stmt-F}
use Rattle.loop_lang.specs.declared.stmt.Stmt.TheFolds.{fold-Stmt}
use Rattle.c_print.specs.declared.level.Level.TheVariants.{Choice}
use Rattle.c_print.specs.Level.{Text}
use Rattle.c_print.specs.Index.{index_text, loop_name}
use Rattle.c_print.specs.Word.{buffer_name, element_text, tests_text, word_text}

-- two spaces for each level
abbrev pub indentation : ℕ → Text
indentation zero = []
indentation (suc level) = codes "  " ++ indentation level

-- a text as a line
abbrev pub line : ℕ → Text → Text
line level t = indentation level ++ t ++ codes "\n"

-- a loop's variable, which begins at 0, and its bound
abbrev pub loop_start : ℕ → Iexp → Text
loop_start depth n = codes "for (int64_t " ++ loop_name depth ++ codes " = INT64_C(0); " ++ loop_name depth ++ codes " < " ++ index_text n Choice

-- the step of a loop's variable by 1
abbrev pub loop_step : ℕ → Text
loop_step depth = codes "; " ++ loop_name depth ++ codes " = " ++ loop_name depth ++ codes " + INT64_C(1)) {"

-- the first line of the loop with the number of loops around it
abbrev pub for_text : ℕ → Iexp → Text
for_text depth n = loop_start depth n ++ loop_step depth

-- what stands before a loop that is marked parallel
abbrev pub mark_text : ℕ → Bool → Text
mark_text level true = line level (codes "#pragma omp parallel for")
mark_text level false = []

-- the first line of an if
abbrev pub if_text : List Test → Text
if_text cs = codes "if (" ++ tests_text cs ++ codes ") {"

-- a word put or added, by the sign, at a place of a buffer
abbrev pub store_text : Text → Buf → Iexp → Wexp → Text
store_text sign b i w = element_text b i ++ sign ++ word_text w Choice ++ codes ";"

-- so many words from a place on put to 0
abbrev pub fill_text : Buf → Iexp → Iexp → Text
fill_text b at n = codes "fill(" ++ buffer_name b ++ codes ", " ++ index_text at Choice ++ codes ", " ++ index_text n Choice ++ codes ");"

-- lines at a level of indentation, with so many loops around them
abbrev pub Lines : Type 0
Lines = ℕ → ℕ → Text

-- statements one after another
abbrev pub in_turn : List Lines → Lines
in_turn fs level depth = flat_map (λ f. f level depth) fs

-- a body, and the brace that closes it
abbrev pub block : Lines → Lines
block f level depth = f (level + 1) depth ++ line level (codes "}")

-- a statement, given the texts of those in it; a loop stands under one loop more than its header
abbrev pub statement_step : Stmt-F Lines → Lines
statement_step (Stmt-F.Seq fs) level depth = in_turn fs level depth
statement_step (Stmt-F.For n marked f) level depth = mark_text level marked ++ line level (for_text depth n) ++ block f level (depth + 1)
statement_step (Stmt-F.If cs f) level depth = line level (if_text cs) ++ block f level depth
statement_step (Stmt-F.Put b i w) level depth = line level (store_text (codes " = ") b i w)
statement_step (Stmt-F.AddTo b i w) level depth = line level (store_text (codes " += ") b i w)
statement_step (Stmt-F.Zero b at n) level depth = line level (fill_text b at n)

-- a statement at a level of indentation, with so many loops around it
abbrev pub statement_text : Stmt → Lines
statement_text = fold-Stmt Lines statement_step
