-- Texts, and where an expression stands in parentheses: exactly where it would otherwise read as another tree.
-- C's levels of expressions, from the loosest: a choice, a sum or difference, a product, quotient or remainder, a part that stands alone.
-- A whole expression may be a choice, as each side of a choice may, and the sides of a comparison may be sums.
use Rattle.std.specs.Prelude.{ℕ, Bool, true, false, if◌then◌else◌, List, [], ◌++◌, codes}
use Rattle.c_print.specs.declared.level.Level.{Level}
use Rattle.c_print.specs.declared.level.Level.TheVariants.{Choice, Sum, Product, Part}

-- the bytes of a text
abbrev pub Text : Type 0
Text = List ℕ

-- whether an expression of the first level reads as another tree where the second is the loosest that may stand; the operand on the right of an operator may
-- only be tighter than it, since operators of one level group to the left
abbrev pub is_looser : Level → Level → Bool
is_looser Choice Choice = false
is_looser Choice place = true
is_looser Sum Product = true
is_looser Sum Part = true
is_looser Product Part = true
is_looser own place = false

-- what stands before an expression in a place
abbrev pub opening : Level → Level → Text
opening own place = if is_looser own place then codes "(" else []

-- what stands behind it
abbrev pub closing : Level → Level → Text
closing own place = if is_looser own place then codes ")" else []

-- in parentheses where a test says so
abbrev pub enclosed : Bool → Text → Text
enclosed true t = codes "(" ++ t ++ codes ")"
enclosed false t = t

-- an expression whose operator has the first level, where the second is the loosest that may stand
abbrev pub in_place : Level → Level → Text → Text
in_place own place t = enclosed (is_looser own place) t
