-- Terms that are a sum, a difference or a product, and others.
use Rattle.std.proofs.Common.{◌≡◌, refl, ap, sym, ◌∙◌, true, false}
use Rattle.path_focus.specs.Outcome.{Unfit}
use Rattle.rules_shape.specs.Ring.{folded, is_operator}
use Rattle.term_tree.specs.Syntax.{add, mul, sub}
use Rattle.term_tree.specs.declared.term.Term.{Term}
use Rattle.term_tree.specs.declared.term.Term.TheVariants.{Add, Mul, Sub}
use Rattle.term_tree.proofs.Forms.{Add-is, Mul-is, Sub-is}

pub operator_add : (t a b : Term) → t ≡ Add a b → true ≡ is_operator t
operator_add t a b h = ap is_operator (sym (h ∙ Add-is a b))

pub operator_sub : (t a b : Term) → t ≡ Sub a b → true ≡ is_operator t
operator_sub t a b h = ap is_operator (sym (h ∙ Sub-is a b))

pub operator_mul : (t a b : Term) → t ≡ Mul a b → true ≡ is_operator t
operator_mul t a b h = ap is_operator (sym (h ∙ Mul-is a b))

module _ (t : Term) (no_sum : (a b : Term) → t ≡ Add a b → ⊥) (no_difference : (a b : Term) → t ≡ Sub a b → ⊥)
    (no_product : (a b : Term) → t ≡ Mul a b → ⊥) where
  pub no_operator : false ≡ is_operator t
  no_operator = by t refl
    where
      by : (u : Term) → t ≡ u → false ≡ is_operator u
      by (add a b) e = absurd (no_sum a b (e ∙ sym (Add-is a b)))
      by (sub a b) e = absurd (no_difference a b (e ∙ sym (Sub-is a b)))
      by (mul a b) e = absurd (no_product a b (e ∙ sym (Mul-is a b)))
      by _ e = refl

  pub nothing_folded : folded t ≡ Unfit
  nothing_folded = by t refl
    where
      by : (u : Term) → t ≡ u → folded u ≡ Unfit
      by (add a b) e = absurd (no_sum a b (e ∙ sym (Add-is a b)))
      by (sub a b) e = absurd (no_difference a b (e ∙ sym (Sub-is a b)))
      by (mul a b) e = absurd (no_product a b (e ∙ sym (Mul-is a b)))
      by _ e = refl

pub ruleset operators = (operator_add, operator_sub, operator_mul, no_operator, nothing_folded)
