-- The text of index expressions as a fold.
use Rattle.std.proofs.Common.{◌≡◌, sym, ◌∙◌}
use Rattle.text_tokens.specs.Kinds.{Text}
use Rattle.schedule_script.specs.declared.tree.IxTree.{IxTree}
use Rattle.schedule_script.specs.declared.tree.IxTree as form
use Rattle.schedule_script.specs.declared.tree.IxTree.TheOpen.{IxTree-F}
use Rattle.schedule_script.specs.Syntax.{negation, sum, difference, product, quotient, remainder}
use Rattle.schedule_script.proofs.Forms.{fold_num, fold_name, fold_negation, fold_sum, fold_difference, fold_product, fold_quotient, fold_remainder}
use Rattle.script_printer.specs.declared.level.Level.{Level}
use Rattle.script_printer.specs.Index.{index_text, index_step, index_fold}

abbrev Given : Type 0
Given = Level → Text

pub index_text-fold : (e : IxTree) (place : Level) → index_text e place ≡ index_fold e place
index_text-fold (form.Num n) place = sym (λ j. fold_num Given index_step n j place)
index_text-fold (form.Name t) place = sym (λ j. fold_name Given index_step t j place)
index_text-fold (negation a) place =
    (λ j. index_step (IxTree-F.Neg (λ l. index_text-fold a l j)) place) ∙ sym (λ j. fold_negation Given index_step a j place)
index_text-fold (sum a b) place =
    (λ j. index_step (IxTree-F.Add (λ l. index_text-fold a l j) (λ l. index_text-fold b l j)) place) ∙ sym (λ j. fold_sum Given index_step a b j place)
index_text-fold (difference a b) place =
    (λ j. index_step (IxTree-F.Sub (λ l. index_text-fold a l j) (λ l. index_text-fold b l j)) place)
    ∙ sym (λ j. fold_difference Given index_step a b j place)
index_text-fold (product a b) place =
    (λ j. index_step (IxTree-F.Mul (λ l. index_text-fold a l j) (λ l. index_text-fold b l j)) place) ∙ sym (λ j. fold_product Given index_step a b j place)
index_text-fold (quotient a k) place =
    (λ j. index_step (IxTree-F.Div (λ l. index_text-fold a l j) k) place) ∙ sym (λ j. fold_quotient Given index_step a k j place)
index_text-fold (remainder a k) place =
    (λ j. index_step (IxTree-F.Rem (λ l. index_text-fold a l j) k) place) ∙ sym (λ j. fold_remainder Given index_step a k j place)

pub ruleset index_fold_laws = (index_text-fold)
