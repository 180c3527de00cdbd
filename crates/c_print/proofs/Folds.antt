-- The texts of index and word expressions as folds.
use Rattle.std.proofs.Common.{◌≡◌, ◌++◌, ap, sym, ◌∙◌}
use Rattle.loop_lang.specs.declared.index.Iexp.{Iexp}
use Rattle.loop_lang.specs.declared.index.Iexp as form
use Rattle.loop_lang.specs.declared.word.Wexp.{Wexp}
use Rattle.loop_lang.specs.declared.word.Wexp as word
use Rattle.loop_lang.specs.declared.index.Iexp.TheOpen.{Iexp-F}
use Rattle.loop_lang.specs.declared.word.Wexp.TheOpen.{Wexp-F}
use Rattle.loop_lang.specs.Syntax.{index_sum, index_difference, index_product, index_quotient, index_remainder, index_larger, word_sum, word_difference}
use Rattle.loop_lang.specs.Syntax.{word_product, word_choice}
use Rattle.loop_lang.proofs.IndexForms as of_index
use Rattle.loop_lang.proofs.WordForms as of_word
use Rattle.std.specs.Prelude.{codes}
use Rattle.loop_lang.specs.declared.index.Iexp.TheVariants as variant
use Rattle.c_print.specs.declared.level.Level.{Level}
use Rattle.c_print.specs.declared.level.Level.TheVariants.{Choice}
use Rattle.c_print.specs.Level.{Text}
use Rattle.c_print.specs.Index.{index_text, index_step, index_fold}
use Rattle.c_print.specs.Word.{word_text, word_step, word_fold}

pub index_text-fold : (e : Iexp) (place : Level) → index_text e place ≡ index_fold e place
index_text-fold (form.Lit n) place = sym (λ j. of_index.fold-lit (Level → Text) index_step n j place)
index_text-fold (form.Size k) place = sym (λ j. of_index.fold-size (Level → Text) index_step k j place)
index_text-fold (form.Loop d) place = sym (λ j. of_index.fold-loop (Level → Text) index_step d j place)
index_text-fold (index_sum a b) place = (λ j. index_step (Iexp-F.Add (λ l. index_text-fold a l j) (λ l. index_text-fold b l j)) place)
    ∙ sym (λ j. of_index.fold-index_sum (Level → Text) index_step a b j place)
index_text-fold (index_difference a b) place = (λ j. index_step (Iexp-F.Sub (λ l. index_text-fold a l j) (λ l. index_text-fold b l j)) place)
    ∙ sym (λ j. of_index.fold-index_difference (Level → Text) index_step a b j place)
index_text-fold (index_product a b) place = (λ j. index_step (Iexp-F.Mul (λ l. index_text-fold a l j) (λ l. index_text-fold b l j)) place)
    ∙ sym (λ j. of_index.fold-index_product (Level → Text) index_step a b j place)
index_text-fold (index_quotient a k) place = (λ j. index_step (Iexp-F.Div (λ l. index_text-fold a l j) k) place)
    ∙ sym (λ j. of_index.fold-index_quotient (Level → Text) index_step a k j place)
index_text-fold (index_remainder a k) place = (λ j. index_step (Iexp-F.Rem (λ l. index_text-fold a l j) k) place)
    ∙ sym (λ j. of_index.fold-index_remainder (Level → Text) index_step a k j place)
index_text-fold (index_larger a b) place = (λ j. index_step (Iexp-F.Larger (λ l. index_text-fold a l j) (λ l. index_text-fold b l j)) place)
    ∙ sym (λ j. of_index.fold-index_larger (Level → Text) index_step a b j place)

pub word_text-fold : (e : Wexp) (place : Level) → word_text e place ≡ word_fold e place
word_text-fold (word.Lit w) place = sym (λ j. of_word.fold-lit (Level → Text) word_step w j place)
word_text-fold (word.Load b i) place = sym (λ j. of_word.fold-load (Level → Text) word_step b i j place)
word_text-fold (word.OfIndex i) place = sym (λ j. of_word.fold-of_index (Level → Text) word_step i j place)
word_text-fold (word_sum a b) place = (λ j. word_step (Wexp-F.Add (λ l. word_text-fold a l j) (λ l. word_text-fold b l j)) place)
    ∙ sym (λ j. of_word.fold-word_sum (Level → Text) word_step a b j place)
word_text-fold (word_difference a b) place = (λ j. word_step (Wexp-F.Sub (λ l. word_text-fold a l j) (λ l. word_text-fold b l j)) place)
    ∙ sym (λ j. of_word.fold-word_difference (Level → Text) word_step a b j place)
word_text-fold (word_product a b) place = (λ j. word_step (Wexp-F.Mul (λ l. word_text-fold a l j) (λ l. word_text-fold b l j)) place)
    ∙ sym (λ j. of_word.fold-word_product (Level → Text) word_step a b j place)
word_text-fold (word_choice cs a b) place = (λ j. word_step (Wexp-F.Choose cs (λ l. word_text-fold a l j) (λ l. word_text-fold b l j)) place)
    ∙ sym (λ j. of_word.fold-word_choice (Level → Text) word_step cs a b j place)

pub larger-fold : (e a b : Iexp) (place : Level) → e ≡ variant.Larger a b
    → index_fold e place ≡ codes "top(" ++ index_fold a Choice ++ codes ", " ++ index_fold b Choice ++ codes ")"
larger-fold e a b place is = ap (λ x. index_fold x place) (is ∙ of_index.index_larger-is a b)
    ∙ (λ j. of_index.fold-index_larger (Level → Text) index_step a b j place)

pub ruleset index_fold_laws = (index_text-fold)

pub ruleset word_fold_laws = (word_text-fold)
