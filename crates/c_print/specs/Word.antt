-- The text of buffers, tests and word expressions.
use Rattle.std.specs.Prelude.{ℕ, List, [], ◌∷◌, ◌++◌, codes, decimal}
use Rattle.std.specs.List.{flat_map}
use Rattle.affine_index.specs.declared.cond.Rel.{Rel}
use Rattle.affine_index.specs.declared.cond.Rel.TheVariants.{Lt, Le, Gt, Ge, Eq}
use Rattle.loop_lang.specs.declared.index.Iexp.{Iexp}
use Rattle.loop_lang.specs.declared.index.Test.{Test}
use Rattle.loop_lang.specs.declared.word.Buf.{Buf}
use Rattle.loop_lang.specs.declared.word.Buf.TheVariants.{Input, Output, Scratch}
use Rattle.loop_lang.specs.declared.word.Wexp.{Wexp, Lit, Load, OfIndex}
use Rattle.loop_lang.specs.declared.word.Wexp.TheOpen.{Wexp-F}
use Rattle.loop_lang.specs.declared.word.Wexp.TheFolds.{fold-Wexp}
use Rattle.loop_lang.specs.Syntax.{word_sum, word_difference, word_product, word_choice}
use Rattle.c_print.specs.declared.level.Level.{Level}
use Rattle.c_print.specs.declared.level.Level.TheVariants.{Choice, Sum, Product, Part}
use Rattle.c_print.specs.Level.{Text, in_place}
use Rattle.c_print.specs.Index.{index_text}

-- inputs a0, a1, .., outputs b0, b1, .., scratch s0, s1, ..
unfoldable pub buffer_name : Buf → Text
buffer_name (Input k) = codes "a" ++ decimal k
buffer_name (Output k) = codes "b" ++ decimal k
buffer_name (Scratch k) = codes "s" ++ decimal k

-- the word at a place of a buffer
abbrev pub element_text : Buf → Iexp → Text
element_text b i = buffer_name b ++ codes "[" ++ index_text i Choice ++ codes "]"

-- the sign of a comparison
abbrev pub relation_text : Rel → Text
relation_text Lt = codes " < "
relation_text Le = codes " <= "
relation_text Gt = codes " > "
relation_text Ge = codes " >= "
relation_text Eq = codes " == "

-- a comparison of two indices
abbrev pub test_text : Test → Text
test_text c = index_text c.left Sum ++ relation_text c.rel ++ index_text c.right Sum

-- one test more
abbrev pub and_test : Test → Text
and_test c = codes " && " ++ test_text c

-- tests that must all hold
abbrev pub tests_text : List Test → Text
tests_text [] = []
tests_text (c ∷ cs) = test_text c ++ flat_map and_test cs

-- a word as a constant of 64 unsigned bits
unfoldable pub word_literal : ℕ → Text
word_literal w = codes "UINT64_C(" ++ decimal w ++ codes ")"

-- an index as a word: a conversion, which C takes modulo 2^64
abbrev pub converted : Iexp → Text
converted i = codes "(uint64_t)(" ++ index_text i Choice ++ codes ")"

-- a word expression, where the level is the loosest that may stand
abbrev pub word_text : Wexp → Level → Text
word_text (Lit w) place = word_literal w
word_text (Load b i) place = element_text b i
word_text (OfIndex i) place = converted i
word_text (word_sum a b) place = in_place Sum place (word_text a Sum ++ codes " + " ++ word_text b Product)
word_text (word_difference a b) place = in_place Sum place (word_text a Sum ++ codes " - " ++ word_text b Product)
word_text (word_product a b) place = in_place Product place (word_text a Product ++ codes " * " ++ word_text b Part)
word_text (word_choice cs a b) place = in_place Choice place (tests_text cs ++ codes " ? " ++ word_text a Choice ++ codes " : " ++ word_text b Choice)

-- the same, given the texts of the operands
abbrev pub word_step : Wexp-F (Level → Text) → Level → Text
word_step (Wexp-F.Lit w) place = word_literal w
word_step (Wexp-F.Load b i) place = element_text b i
word_step (Wexp-F.OfIndex i) place = converted i
word_step (Wexp-F.Add a b) place = in_place Sum place (a Sum ++ codes " + " ++ b Product)
word_step (Wexp-F.Sub a b) place = in_place Sum place (a Sum ++ codes " - " ++ b Product)
word_step (Wexp-F.Mul a b) place = in_place Product place (a Product ++ codes " * " ++ b Part)
word_step (Wexp-F.Choose cs a b) place = in_place Choice place (tests_text cs ++ codes " ? " ++ a Choice ++ codes " : " ++ b Choice)

-- the same text, as a fold
abbrev pub word_fold : Wexp → Level → Text
word_fold = fold-Wexp (Level → Text) word_step
