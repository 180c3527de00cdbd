-- The text of a normal form, as a source has it: its items with positive coefficient, joined by +, then the others, each after -. Sizes stand by
-- their names, and the variables of gens and sums by the number of those around them.
use Rattle.std.specs.Prelude.{ℕ, Bool, true, false, List, [], ◌++◌, codes, decimal, get_or, map}
use Rattle.std.specs.Prelude.{if◌then◌else◌}
use Rattle.std.specs.Fmt.{signed_decimal}
use Rattle.affine_index.specs.declared.cond.Cmp.{Cmp}
use Rattle.affine_index.specs.declared.cond.Cmp.TheVariants.{Ge, Eq}
use Rattle.affine_index.specs.declared.form.Items.{Items}
use Rattle.index_trees.specs.Tree.{index_tree}
use Rattle.loop_lang.specs.declared.index.Iexp.{Iexp, Lit, Size, Loop}
use Rattle.loop_lang.specs.declared.index.Iexp.TheOpen.{Iexp-F}
use Rattle.loop_lang.specs.declared.index.Iexp.TheFolds.{fold-Iexp}
use Rattle.loop_lang.specs.Syntax.{index_sum, index_difference, index_product, index_quotient, index_remainder, index_larger}
use Rattle.term_tree.specs.declared.term.SizeDecl.{SizeDecl}
use Rattle.facts_text.specs.declared.level.Level.{Level}
use Rattle.facts_text.specs.declared.level.Level.TheVariants.{Sum, Product, Part}

-- the bytes of a text
abbrev pub Text : Type 0
Text = List ℕ

-- whether an expression of the first level reads as another tree where the second is the loosest that may stand; the operand on the right of an operator may
-- only be tighter than it, since operators of one level group to the left
abbrev pub is_looser : Level → Level → Bool
is_looser Sum Product = true
is_looser Sum Part = true
is_looser Product Part = true
is_looser own place = false

-- what stands before an expression in a place
abbrev pub opening : Level → Level → Text
opening own place = if is_looser own place then codes "(" else []

-- what stands behind it
abbrev pub closing : Level → Level → Text
closing own place = if is_looser own place then codes ")" else []

-- in parentheses where a test says so
abbrev pub enclosed : Bool → Text → Text
enclosed true t = codes "(" ++ t ++ codes ")"
enclosed false t = t

-- an expression whose operator has the first level, where the second is the loosest that may stand
abbrev pub in_place : Level → Level → Text → Text
in_place own place t = enclosed (is_looser own place) t

-- the name of a variable with so many gens and sums around its own
abbrev pub var_name : ℕ → Text
var_name depth = codes "i" ++ decimal depth

module _ (sizes : List SizeDecl) where
  -- the name of a size
  abbrev pub size_name : ℕ → Text
  size_name k = get_or (map (λ d. d.name) sizes) k []

  -- the tree of an index, where the level is the loosest that may stand; no larger of two stands in the tree of a form
  abbrev pub index_text : Iexp → Level → Text
  index_text (Lit n) place = signed_decimal n
  index_text (Size k) place = size_name k
  index_text (Loop d) place = var_name d
  index_text (index_sum a b) place = in_place Sum place (index_text a Sum ++ codes " + " ++ index_text b Product)
  index_text (index_difference a b) place = in_place Sum place (index_text a Sum ++ codes " - " ++ index_text b Product)
  index_text (index_product a b) place = in_place Product place (index_text a Product ++ codes " * " ++ index_text b Part)
  index_text (index_quotient a k) place = in_place Product place (index_text a Product ++ codes " / " ++ decimal k)
  index_text (index_remainder a k) place = in_place Product place (index_text a Product ++ codes " % " ++ decimal k)
  index_text (index_larger a b) place = []

  -- the same, given the texts of the operands
  abbrev pub index_step : Iexp-F (Level → Text) → Level → Text
  index_step (Iexp-F.Lit n) place = signed_decimal n
  index_step (Iexp-F.Size k) place = size_name k
  index_step (Iexp-F.Loop d) place = var_name d
  index_step (Iexp-F.Add a b) place = in_place Sum place (a Sum ++ codes " + " ++ b Product)
  index_step (Iexp-F.Sub a b) place = in_place Sum place (a Sum ++ codes " - " ++ b Product)
  index_step (Iexp-F.Mul a b) place = in_place Product place (a Product ++ codes " * " ++ b Part)
  index_step (Iexp-F.Div a k) place = in_place Product place (a Product ++ codes " / " ++ decimal k)
  index_step (Iexp-F.Rem a k) place = in_place Product place (a Product ++ codes " % " ++ decimal k)
  index_step (Iexp-F.Larger a b) place = []

  -- the same text, as a fold
  abbrev pub index_fold : Iexp → Level → Text
  index_fold = fold-Iexp (Level → Text) index_step

  -- a form under so many gens and sums
  unfoldable pub form_text : ℕ → Items → Text
  form_text vars x = index_text (index_tree vars x) Sum

  -- a comparison with 0
  abbrev pub comparison_text : ℕ → Cmp → Text
  comparison_text vars (Ge x) = form_text vars x ++ codes " >= 0"
  comparison_text vars (Eq x) = form_text vars x ++ codes " == 0"
