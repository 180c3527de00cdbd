-- A word expression as code makes it is the form that specs/ matches on, and a fold at each form.
use Rattle.std.proofs.Common.{◌≡◌, ℕ, List, refl, ap, sym, ◌∙◌}
use denote.Hole.Carrier.{hidden}
use Rattle.loop_lang.specs.declared.index.Iexp.{Iexp}
use Rattle.loop_lang.specs.declared.index.Test.{Test}
use Rattle.loop_lang.specs.declared.word.Buf.{Buf}
use Rattle.loop_lang.specs.declared.word.Wexp.{Wexp}
use Rattle.loop_lang.specs.declared.word.Wexp as form
use Rattle.loop_lang.specs.declared.word.Wexp.TheVariants as variant
use Rattle.loop_lang.specs.declared.word.Wexp.TheBlock.{shape-the_row-Wexp-0, hidden-the_row-Wexp-0}
use Rattle.loop_lang.specs.declared.word.Wexp.TheOpen.{Wexp-F}
use Rattle.loop_lang.specs.declared.word.Wexp.TheFolds.{fold-Wexp, fold-roll-Wexp}
use Rattle.loop_lang.specs.Syntax.{word_sum, word_difference, word_product, word_choice}

pub word_sum-is : (a : Wexp) (b : Wexp) → variant.Add a b ≡ word_sum a b
unfolding shape-the_row-Wexp-0 hidden-the_row-Wexp-0 hidden
word_sum-is a b = refl

pub word_difference-is : (a : Wexp) (b : Wexp) → variant.Sub a b ≡ word_difference a b
unfolding shape-the_row-Wexp-0 hidden-the_row-Wexp-0 hidden
word_difference-is a b = refl

pub word_product-is : (a : Wexp) (b : Wexp) → variant.Mul a b ≡ word_product a b
unfolding shape-the_row-Wexp-0 hidden-the_row-Wexp-0 hidden
word_product-is a b = refl

pub word_choice-is : (cs : List Test) (a : Wexp) (b : Wexp) → variant.Choose cs a b ≡ word_choice cs a b
unfolding shape-the_row-Wexp-0 hidden-the_row-Wexp-0 hidden
word_choice-is cs a b = refl

module _ (A : Type 0) (step : Wexp-F A → A) where
  pub fold-lit : (w : ℕ) → fold-Wexp A step (form.Lit w) ≡ step (Wexp-F.Lit w)
  fold-lit w = ap (fold-Wexp A step) (sym (variant.rolls-Lit w)) ∙ fold-roll-Wexp A step (Wexp-F.Lit w)

  pub fold-load : (b : Buf) (i : Iexp) → fold-Wexp A step (form.Load b i) ≡ step (Wexp-F.Load b i)
  fold-load b i = ap (fold-Wexp A step) (sym (variant.rolls-Load b i)) ∙ fold-roll-Wexp A step (Wexp-F.Load b i)

  pub fold-of_index : (i : Iexp) → fold-Wexp A step (form.OfIndex i) ≡ step (Wexp-F.OfIndex i)
  fold-of_index i = ap (fold-Wexp A step) (sym (variant.rolls-OfIndex i)) ∙ fold-roll-Wexp A step (Wexp-F.OfIndex i)

  pub fold-word_sum : (a : Wexp) (b : Wexp) → fold-Wexp A step (word_sum a b) ≡ step (Wexp-F.Add (fold-Wexp A step a) (fold-Wexp A step b))
  fold-word_sum a b = ap (fold-Wexp A step) (sym (variant.rolls-Add a b ∙ word_sum-is a b)) ∙ fold-roll-Wexp A step (Wexp-F.Add a b)

  pub fold-word_difference : (a : Wexp) (b : Wexp) → fold-Wexp A step (word_difference a b) ≡ step (Wexp-F.Sub (fold-Wexp A step a) (fold-Wexp A step b))
  fold-word_difference a b = ap (fold-Wexp A step) (sym (variant.rolls-Sub a b ∙ word_difference-is a b)) ∙ fold-roll-Wexp A step (Wexp-F.Sub a b)

  pub fold-word_product : (a : Wexp) (b : Wexp) → fold-Wexp A step (word_product a b) ≡ step (Wexp-F.Mul (fold-Wexp A step a) (fold-Wexp A step b))
  fold-word_product a b = ap (fold-Wexp A step) (sym (variant.rolls-Mul a b ∙ word_product-is a b)) ∙ fold-roll-Wexp A step (Wexp-F.Mul a b)

  pub fold-word_choice : (cs : List Test) (a : Wexp) (b : Wexp)
      → fold-Wexp A step (word_choice cs a b) ≡ step (Wexp-F.Choose cs (fold-Wexp A step a) (fold-Wexp A step b))
  fold-word_choice cs a b = ap (fold-Wexp A step) (sym (variant.rolls-Choose cs a b ∙ word_choice-is cs a b)) ∙ fold-roll-Wexp A step (Wexp-F.Choose cs a b)
