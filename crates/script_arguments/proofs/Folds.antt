-- The form of an index expression as a fold.
use Rattle.std.proofs.Common.{◌≡◌, ◌∙◌, Option}
use Rattle.affine_index.specs.declared.form.Items.{Items}
use Rattle.text_tokens.specs.Kinds.{Text}
use Rattle.schedule_script.specs.declared.tree.IxTree.{IxTree}
use Rattle.schedule_script.specs.declared.tree.IxTree as form
use Rattle.schedule_script.specs.declared.tree.IxTree.TheOpen.{IxTree-F}
use Rattle.schedule_script.specs.Syntax.{negation, sum, difference, product, quotient, remainder}
use Rattle.schedule_script.proofs.Forms.{fold_num, fold_name, fold_negation, fold_sum, fold_difference, fold_product, fold_quotient, fold_remainder}
use Rattle.script_arguments.specs.Forms.{form_fold, form_of, form_step}

module _ (names : Text → Option Items) where
  abbrev A : Type 0
  A = Option Items

  abbrev step : IxTree-F A → A
  step = form_step names

  pub form_fold-is : (e : IxTree) → form_fold names e ≡ form_of names e
  form_fold-is (form.Num n) = fold_num A step n
  form_fold-is (form.Name t) = fold_name A step t
  form_fold-is (negation a) = fold_negation A step a ∙ (λ j. step (IxTree-F.Neg (form_fold-is a j)))
  form_fold-is (sum a b) = fold_sum A step a b ∙ (λ j. step (IxTree-F.Add (form_fold-is a j) (form_fold-is b j)))
  form_fold-is (difference a b) = fold_difference A step a b ∙ (λ j. step (IxTree-F.Sub (form_fold-is a j) (form_fold-is b j)))
  form_fold-is (product a b) = fold_product A step a b ∙ (λ j. step (IxTree-F.Mul (form_fold-is a j) (form_fold-is b j)))
  form_fold-is (quotient a k) = fold_quotient A step a k ∙ (λ j. step (IxTree-F.Div (form_fold-is a j) k))
  form_fold-is (remainder a k) = fold_remainder A step a k ∙ (λ j. step (IxTree-F.Rem (form_fold-is a j) k))

pub ruleset form_fold_laws = (form_fold-is)
