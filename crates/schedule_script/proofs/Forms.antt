-- An index tree as code makes it is the form that specs/ matches on, and a fold at each form.
use Rattle.std.proofs.Common.{◌≡◌, ℕ, refl, ap, sym, ◌∙◌}
use denote.Hole.Carrier.{hidden}
use Rattle.text_tokens.specs.Kinds.{Text}
use Rattle.schedule_script.specs.declared.tree.IxTree.{IxTree}
use Rattle.schedule_script.specs.declared.tree.IxTree as form
use Rattle.schedule_script.specs.declared.tree.IxTree.TheVariants as variant
use Rattle.schedule_script.specs.declared.tree.IxTree.TheOpen.{IxTree-F}
use Rattle.schedule_script.specs.declared.tree.IxTree.TheFolds.{fold-IxTree, fold-roll-IxTree}
use Rattle.schedule_script.specs.declared.tree.IxTree.TheVariants.{Neg, Add, Sub, Mul, Div, Rem}
use Rattle.schedule_script.specs.declared.tree.IxTree.TheBlock.{shape-the_row-IxTree-0, hidden-the_row-IxTree-0}
use Rattle.schedule_script.specs.Syntax.{negation, sum, difference, product, quotient, remainder}

pub negation_is : (a : IxTree) → Neg a ≡ negation a
unfolding shape-the_row-IxTree-0 hidden-the_row-IxTree-0 hidden
negation_is a = refl

pub sum_is : (a b : IxTree) → Add a b ≡ sum a b
unfolding shape-the_row-IxTree-0 hidden-the_row-IxTree-0 hidden
sum_is a b = refl

pub difference_is : (a b : IxTree) → Sub a b ≡ difference a b
unfolding shape-the_row-IxTree-0 hidden-the_row-IxTree-0 hidden
difference_is a b = refl

pub product_is : (a b : IxTree) → Mul a b ≡ product a b
unfolding shape-the_row-IxTree-0 hidden-the_row-IxTree-0 hidden
product_is a b = refl

pub quotient_is : (a : IxTree) (k : ℕ) → Div a k ≡ quotient a k
unfolding shape-the_row-IxTree-0 hidden-the_row-IxTree-0 hidden
quotient_is a k = refl

pub remainder_is : (a : IxTree) (k : ℕ) → Rem a k ≡ remainder a k
unfolding shape-the_row-IxTree-0 hidden-the_row-IxTree-0 hidden
remainder_is a k = refl

module _ (A : Type 0) (step : IxTree-F A → A) where
  pub fold_num : (n : ℕ) → fold-IxTree A step (form.Num n) ≡ step (IxTree-F.Num n)
  fold_num n = ap (fold-IxTree A step) (sym (variant.rolls-Num n)) ∙ fold-roll-IxTree A step (IxTree-F.Num n)

  pub fold_name : (t : Text) → fold-IxTree A step (form.Name t) ≡ step (IxTree-F.Name t)
  fold_name t = ap (fold-IxTree A step) (sym (variant.rolls-Name t)) ∙ fold-roll-IxTree A step (IxTree-F.Name t)

  pub fold_negation : (a : IxTree) → fold-IxTree A step (negation a) ≡ step (IxTree-F.Neg (fold-IxTree A step a))
  fold_negation a = ap (fold-IxTree A step) (sym (variant.rolls-Neg a ∙ negation_is a)) ∙ fold-roll-IxTree A step (IxTree-F.Neg a)

  pub fold_sum : (a b : IxTree) → fold-IxTree A step (sum a b) ≡ step (IxTree-F.Add (fold-IxTree A step a) (fold-IxTree A step b))
  fold_sum a b = ap (fold-IxTree A step) (sym (variant.rolls-Add a b ∙ sum_is a b)) ∙ fold-roll-IxTree A step (IxTree-F.Add a b)

  pub fold_difference : (a b : IxTree) → fold-IxTree A step (difference a b) ≡ step (IxTree-F.Sub (fold-IxTree A step a) (fold-IxTree A step b))
  fold_difference a b =
      ap (fold-IxTree A step) (sym (variant.rolls-Sub a b ∙ difference_is a b)) ∙ fold-roll-IxTree A step (IxTree-F.Sub a b)

  pub fold_product : (a b : IxTree) → fold-IxTree A step (product a b) ≡ step (IxTree-F.Mul (fold-IxTree A step a) (fold-IxTree A step b))
  fold_product a b = ap (fold-IxTree A step) (sym (variant.rolls-Mul a b ∙ product_is a b)) ∙ fold-roll-IxTree A step (IxTree-F.Mul a b)

  pub fold_quotient : (a : IxTree) (k : ℕ) → fold-IxTree A step (quotient a k) ≡ step (IxTree-F.Div (fold-IxTree A step a) k)
  fold_quotient a k = ap (fold-IxTree A step) (sym (variant.rolls-Div a k ∙ quotient_is a k)) ∙ fold-roll-IxTree A step (IxTree-F.Div a k)

  pub fold_remainder : (a : IxTree) (k : ℕ) → fold-IxTree A step (remainder a k) ≡ step (IxTree-F.Rem (fold-IxTree A step a) k)
  fold_remainder a k = ap (fold-IxTree A step) (sym (variant.rolls-Rem a k ∙ remainder_is a k)) ∙ fold-roll-IxTree A step (IxTree-F.Rem a k)
