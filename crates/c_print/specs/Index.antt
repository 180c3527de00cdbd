-- The text of index expressions.
use Rattle.std.specs.Prelude.{ℕ, ℤ, pos, ◌++◌, codes, decimal}
use Rattle.std.specs.Fmt.{signed_decimal}
use Rattle.loop_lang.specs.declared.index.Iexp.{Iexp, Lit, Size, Loop}
use Rattle.loop_lang.specs.declared.index.Iexp.TheOpen.{Iexp-F}
use Rattle.loop_lang.specs.declared.index.Iexp.TheFolds.{fold-Iexp}
use Rattle.loop_lang.specs.Syntax.{index_sum, index_difference, index_product, index_quotient, index_remainder, index_larger}
use Rattle.c_print.specs.declared.level.Level.{Level}
use Rattle.c_print.specs.declared.level.Level.TheVariants.{Choice, Sum, Product, Part}
use Rattle.c_print.specs.Level.{Text, in_place}

-- a number as a constant of 64 signed bits; one below 0, which no well formed program has, would have its sign within the parentheses
unfoldable pub index_literal : ℤ → Text
index_literal n = codes "INT64_C(" ++ signed_decimal n ++ codes ")"

-- sizes n0, n1, ..
unfoldable pub size_name : ℕ → Text
size_name k = codes "n" ++ decimal k

-- the variable of a loop with so many loops around it: i0, i1, ..
unfoldable pub loop_name : ℕ → Text
loop_name depth = codes "i" ++ decimal depth

-- an index expression, where the level is the loosest that may stand
abbrev pub index_text : Iexp → Level → Text
index_text (Lit n) place = index_literal n
index_text (Size k) place = size_name k
index_text (Loop d) place = loop_name d
index_text (index_sum a b) place = in_place Sum place (index_text a Sum ++ codes " + " ++ index_text b Product)
index_text (index_difference a b) place = in_place Sum place (index_text a Sum ++ codes " - " ++ index_text b Product)
index_text (index_product a b) place = in_place Product place (index_text a Product ++ codes " * " ++ index_text b Part)
index_text (index_quotient a k) place = in_place Product place (index_text a Product ++ codes " / " ++ index_literal (pos k))
index_text (index_remainder a k) place = in_place Product place (index_text a Product ++ codes " % " ++ index_literal (pos k))
index_text (index_larger a b) place = codes "top(" ++ index_text a Choice ++ codes ", " ++ index_text b Choice ++ codes ")"

-- the same, given the texts of the operands
abbrev pub index_step : Iexp-F (Level → Text) → Level → Text
index_step (Iexp-F.Lit n) place = index_literal n
index_step (Iexp-F.Size k) place = size_name k
index_step (Iexp-F.Loop d) place = loop_name d
index_step (Iexp-F.Add a b) place = in_place Sum place (a Sum ++ codes " + " ++ b Product)
index_step (Iexp-F.Sub a b) place = in_place Sum place (a Sum ++ codes " - " ++ b Product)
index_step (Iexp-F.Mul a b) place = in_place Product place (a Product ++ codes " * " ++ b Part)
index_step (Iexp-F.Div a k) place = in_place Product place (a Product ++ codes " / " ++ index_literal (pos k))
index_step (Iexp-F.Rem a k) place = in_place Product place (a Product ++ codes " % " ++ index_literal (pos k))
index_step (Iexp-F.Larger a b) place = codes "top(" ++ a Choice ++ codes ", " ++ b Choice ++ codes ")"

-- the same text, as a fold
abbrev pub index_fold : Iexp → Level → Text
index_fold = fold-Iexp (Level → Text) index_step
