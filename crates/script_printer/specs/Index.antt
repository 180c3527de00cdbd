-- The canonical text of index expressions: parentheses stand exactly where it would otherwise read as another tree.
use Rattle.std.specs.Prelude.{Bool, true, false, if◌then◌else◌, [], ◌++◌, codes, decimal}
use Rattle.text_tokens.specs.Kinds.{Text}
use Rattle.schedule_script.specs.declared.tree.IxTree.{IxTree, Num, Name}
use Rattle.schedule_script.specs.declared.tree.IxTree.TheOpen.{IxTree-F}
use Rattle.schedule_script.specs.declared.tree.IxTree.TheFolds.{fold-IxTree}
use Rattle.schedule_script.specs.Syntax.{negation, sum, difference, product, quotient, remainder}
use Rattle.script_printer.specs.declared.level.Level.{Level}
use Rattle.script_printer.specs.declared.level.Level.TheVariants.{Sum, Product, Part}

-- Whether an expression of the first level reads as another tree where the second is the loosest that may stand. The operand on the right of an operator
-- may only be tighter than it, since operators of one level group to the left.
abbrev pub is_looser : Level → Level → Bool
is_looser Sum Product = true
is_looser Sum Part = true
is_looser Product Part = true
is_looser own place = false

-- what stands before an expression in a place
abbrev pub opening : Level → Level → Text
opening own place = if is_looser own place then codes "(" else []

-- what stands behind it
abbrev pub closing : Level → Level → Text
closing own place = if is_looser own place then codes ")" else []

-- in parentheses where a test says so
abbrev pub enclosed : Bool → Text → Text
enclosed true t = codes "(" ++ t ++ codes ")"
enclosed false t = t

-- an expression whose operator has the first level, where the second is the loosest that may stand
abbrev pub in_place : Level → Level → Text → Text
in_place own place t = enclosed (is_looser own place) t

-- an index expression, where the level is the loosest that may stand; a unary minus holds one part, and no space follows it
abbrev pub index_text : IxTree → Level → Text
index_text (Num n) place = decimal n
index_text (Name t) place = t
index_text (negation a) place = codes "-" ++ index_text a Part
index_text (sum a b) place = in_place Sum place (index_text a Sum ++ codes " + " ++ index_text b Product)
index_text (difference a b) place = in_place Sum place (index_text a Sum ++ codes " - " ++ index_text b Product)
index_text (product a b) place = in_place Product place (index_text a Product ++ codes " * " ++ index_text b Part)
index_text (quotient a k) place = in_place Product place (index_text a Product ++ codes " / " ++ decimal k)
index_text (remainder a k) place = in_place Product place (index_text a Product ++ codes " % " ++ decimal k)

-- the same, given the texts of the operands
abbrev pub index_step : IxTree-F (Level → Text) → Level → Text
index_step (IxTree-F.Num n) place = decimal n
index_step (IxTree-F.Name t) place = t
index_step (IxTree-F.Neg a) place = codes "-" ++ a Part
index_step (IxTree-F.Add a b) place = in_place Sum place (a Sum ++ codes " + " ++ b Product)
index_step (IxTree-F.Sub a b) place = in_place Sum place (a Sum ++ codes " - " ++ b Product)
index_step (IxTree-F.Mul a b) place = in_place Product place (a Product ++ codes " * " ++ b Part)
index_step (IxTree-F.Div a k) place = in_place Product place (a Product ++ codes " / " ++ decimal k)
index_step (IxTree-F.Rem a k) place = in_place Product place (a Product ++ codes " % " ++ decimal k)

-- the same text, as a fold
abbrev pub index_fold : IxTree → Level → Text
index_fold = fold-IxTree (Level → Text) index_step
