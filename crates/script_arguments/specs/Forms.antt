-- Forms of index expressions: each number and operator within the limits of forms, as in a source text.
use Rattle.std.specs.Prelude.{ℕ, ◌^◌, ◌&&◌, if◌then◌else◌, nat_le, pos, List, [], ◌∷◌, Option, Some, None}
use Rattle.std.specs.Option.{option_and_then, option_map}
use Rattle.affine_index.specs.Form.{literal_form}
use Rattle.affine_index.specs.Quotient.{quotient_of, remainder_of}
use Rattle.affine_index.specs.Sum.{difference_of, sum_of}
use Rattle.affine_index.specs.declared.cond.Cmp.{Cmp}
use Rattle.affine_index.specs.declared.cond.Cmp.TheVariants.{Ge, Eq}
use Rattle.affine_index.specs.declared.cond.Rel.{Rel}
use Rattle.affine_index.specs.declared.cond.Rel.TheVariants as rel
use Rattle.affine_index.specs.declared.form.Items.{Items}
use Rattle.fact_list.specs.Facts.{normal_product, where_normal}
use Rattle.path_focus.specs.Making.{rest_below}
use Rattle.schedule_script.specs.Syntax as tree
use Rattle.schedule_script.specs.declared.tree.Comparison.{Comparison}
use Rattle.schedule_script.specs.declared.tree.IxTree.{IxTree, Num, Name}
use Rattle.schedule_script.specs.declared.tree.IxTree.TheFolds.{fold-IxTree}
use Rattle.schedule_script.specs.declared.tree.IxTree.TheOpen.{IxTree-F}
use Rattle.text_tokens.specs.Kinds.{Text}

-- what is made of two, where both are there
abbrev pub of_two : {A B : Type 0} → (A → A → Option B) → Option A → Option A → Option B
of_two f (Some x) (Some y) = f x y
of_two f _ _ = None

-- a number, at most 2^40
abbrev pub number_form : ℕ → Option Items
number_form n = if nat_le n (2 ^ 40) then Some (literal_form (pos n)) else None

abbrev pub negated : Items → Option Items
negated x = where_normal (difference_of (literal_form (pos 0)) x)

abbrev pub added : Items → Items → Option Items
added x y = where_normal (sum_of x y)

abbrev pub subtracted : Items → Items → Option Items
subtracted x y = where_normal (difference_of x y)

-- by a number from 1 to 2,147,483,647
abbrev pub over : (Items → ℕ → Items) → ℕ → Items → Option Items
over f k x = if nat_le 1 k && nat_le k 2147483647 then where_normal (f x k) else None

module _ (names : Text → Option Items) where
  -- the form of an index expression, where each name in it has one
  abbrev pub form_of : IxTree → Option Items
  form_of (Num n) = number_form n
  form_of (Name t) = names t
  form_of (tree.negation a) = option_and_then negated (form_of a)
  form_of (tree.sum a b) = of_two added (form_of a) (form_of b)
  form_of (tree.difference a b) = of_two subtracted (form_of a) (form_of b)
  form_of (tree.product a b) = of_two normal_product (form_of a) (form_of b)
  form_of (tree.quotient a k) = option_and_then (over quotient_of k) (form_of a)
  form_of (tree.remainder a k) = option_and_then (over remainder_of k) (form_of a)

  -- the same, given the forms of the operands
  abbrev pub form_step : IxTree-F (Option Items) → Option Items
  form_step (IxTree-F.Num n) = number_form n
  form_step (IxTree-F.Name t) = names t
  form_step (IxTree-F.Neg a) = option_and_then negated a
  form_step (IxTree-F.Add a b) = of_two added a b
  form_step (IxTree-F.Sub a b) = of_two subtracted a b
  form_step (IxTree-F.Mul a b) = of_two normal_product a b
  form_step (IxTree-F.Div a k) = option_and_then (over quotient_of k) a
  form_step (IxTree-F.Rem a k) = option_and_then (over remainder_of k) a

  -- the same form, as a fold
  abbrev pub form_fold : IxTree → Option Items
  form_fold = fold-IxTree (Option Items) form_step

-- the comparison of two forms, as one of a form with 0
abbrev pub compared : Rel → Items → Items → Option Cmp
compared rel.Lt a b = option_map Ge (where_normal (rest_below b a))
compared rel.Le a b = option_map Ge (subtracted b a)
compared rel.Gt a b = option_map Ge (where_normal (rest_below a b))
compared rel.Ge a b = option_map Ge (subtracted a b)
compared rel.Eq a b = option_map Eq (subtracted a b)

-- a comparison of two expressions
abbrev pub comparison_of : (Text → Option Items) → Comparison → Option Cmp
comparison_of names c = of_two (compared c.rel) (form_of names c.left) (form_of names c.right)

-- one in front of others, where they are there
abbrev pub in_front : Option Cmp → Option (List Cmp) → Option (List Cmp)
in_front (Some c) (Some cs) = Some (c ∷ cs)
in_front _ _ = None

-- each comparison
abbrev pub comparisons_of : (Text → Option Items) → List Comparison → Option (List Cmp)
comparisons_of names [] = Some []
comparisons_of names (c ∷ cs) = in_front (comparison_of names c) (comparisons_of names cs)
