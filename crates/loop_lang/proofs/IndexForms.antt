-- An index expression as code makes it is the form that specs/ matches on, and a fold at each form.
use Rattle.std.proofs.Common.{◌≡◌, ℕ, ℤ, refl, ap, sym, ◌∙◌}
use denote.Hole.Carrier.{hidden}
use Rattle.loop_lang.specs.declared.index.Iexp.{Iexp}
use Rattle.loop_lang.specs.declared.index.Iexp as form
use Rattle.loop_lang.specs.declared.index.Iexp.TheVariants as variant
use Rattle.loop_lang.specs.declared.index.Iexp.TheBlock.{shape-the_row-Iexp-0, hidden-the_row-Iexp-0}
use Rattle.loop_lang.specs.declared.index.Iexp.TheOpen.{Iexp-F}
use Rattle.loop_lang.specs.declared.index.Iexp.TheFolds.{fold-Iexp, fold-roll-Iexp}
use Rattle.loop_lang.specs.Syntax.{index_sum, index_difference, index_product, index_quotient, index_remainder, index_larger}

pub index_sum-is : (a : Iexp) (b : Iexp) → variant.Add a b ≡ index_sum a b
unfolding shape-the_row-Iexp-0 hidden-the_row-Iexp-0 hidden
index_sum-is a b = refl

pub index_difference-is : (a : Iexp) (b : Iexp) → variant.Sub a b ≡ index_difference a b
unfolding shape-the_row-Iexp-0 hidden-the_row-Iexp-0 hidden
index_difference-is a b = refl

pub index_product-is : (a : Iexp) (b : Iexp) → variant.Mul a b ≡ index_product a b
unfolding shape-the_row-Iexp-0 hidden-the_row-Iexp-0 hidden
index_product-is a b = refl

pub index_quotient-is : (a : Iexp) (k : ℕ) → variant.Div a k ≡ index_quotient a k
unfolding shape-the_row-Iexp-0 hidden-the_row-Iexp-0 hidden
index_quotient-is a k = refl

pub index_remainder-is : (a : Iexp) (k : ℕ) → variant.Rem a k ≡ index_remainder a k
unfolding shape-the_row-Iexp-0 hidden-the_row-Iexp-0 hidden
index_remainder-is a k = refl

pub index_larger-is : (a : Iexp) (b : Iexp) → variant.Larger a b ≡ index_larger a b
unfolding shape-the_row-Iexp-0 hidden-the_row-Iexp-0 hidden
index_larger-is a b = refl

module _ (A : Type 0) (step : Iexp-F A → A) where
  pub fold-lit : (n : ℤ) → fold-Iexp A step (form.Lit n) ≡ step (Iexp-F.Lit n)
  fold-lit n = ap (fold-Iexp A step) (sym (variant.rolls-Lit n)) ∙ fold-roll-Iexp A step (Iexp-F.Lit n)

  pub fold-size : (k : ℕ) → fold-Iexp A step (form.Size k) ≡ step (Iexp-F.Size k)
  fold-size k = ap (fold-Iexp A step) (sym (variant.rolls-Size k)) ∙ fold-roll-Iexp A step (Iexp-F.Size k)

  pub fold-loop : (d : ℕ) → fold-Iexp A step (form.Loop d) ≡ step (Iexp-F.Loop d)
  fold-loop d = ap (fold-Iexp A step) (sym (variant.rolls-Loop d)) ∙ fold-roll-Iexp A step (Iexp-F.Loop d)

  pub fold-index_sum : (a : Iexp) (b : Iexp) → fold-Iexp A step (index_sum a b) ≡ step (Iexp-F.Add (fold-Iexp A step a) (fold-Iexp A step b))
  fold-index_sum a b = ap (fold-Iexp A step) (sym (variant.rolls-Add a b ∙ index_sum-is a b)) ∙ fold-roll-Iexp A step (Iexp-F.Add a b)

  pub fold-index_difference : (a : Iexp) (b : Iexp) → fold-Iexp A step (index_difference a b) ≡ step (Iexp-F.Sub (fold-Iexp A step a) (fold-Iexp A step b))
  fold-index_difference a b = ap (fold-Iexp A step) (sym (variant.rolls-Sub a b ∙ index_difference-is a b)) ∙ fold-roll-Iexp A step (Iexp-F.Sub a b)

  pub fold-index_product : (a : Iexp) (b : Iexp) → fold-Iexp A step (index_product a b) ≡ step (Iexp-F.Mul (fold-Iexp A step a) (fold-Iexp A step b))
  fold-index_product a b = ap (fold-Iexp A step) (sym (variant.rolls-Mul a b ∙ index_product-is a b)) ∙ fold-roll-Iexp A step (Iexp-F.Mul a b)

  pub fold-index_quotient : (a : Iexp) (k : ℕ) → fold-Iexp A step (index_quotient a k) ≡ step (Iexp-F.Div (fold-Iexp A step a) k)
  fold-index_quotient a k = ap (fold-Iexp A step) (sym (variant.rolls-Div a k ∙ index_quotient-is a k)) ∙ fold-roll-Iexp A step (Iexp-F.Div a k)

  pub fold-index_remainder : (a : Iexp) (k : ℕ) → fold-Iexp A step (index_remainder a k) ≡ step (Iexp-F.Rem (fold-Iexp A step a) k)
  fold-index_remainder a k = ap (fold-Iexp A step) (sym (variant.rolls-Rem a k ∙ index_remainder-is a k)) ∙ fold-roll-Iexp A step (Iexp-F.Rem a k)

  pub fold-index_larger : (a : Iexp) (b : Iexp) → fold-Iexp A step (index_larger a b) ≡ step (Iexp-F.Larger (fold-Iexp A step a) (fold-Iexp A step b))
  fold-index_larger a b = ap (fold-Iexp A step) (sym (variant.rolls-Larger a b ∙ index_larger-is a b)) ∙ fold-roll-Iexp A step (Iexp-F.Larger a b)
