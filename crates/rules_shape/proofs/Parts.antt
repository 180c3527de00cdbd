-- A term of one form, or of another.
use Rattle.std.proofs.Common.{◌≡◌, ℕ, refl, sym, ◌∙◌}
use Rattle.path_focus.specs.Outcome.{Meant, Unfit}
use Rattle.rules_shape.specs.Patterns.{fits_add, fits_lit, fits_mul, fits_sub}
use Rattle.term_tree.specs.Syntax.{add, mul, sub}
use Rattle.term_tree.specs.declared.term.Term.{Term, Lit}
use Rattle.term_tree.specs.declared.term.Term.TheVariants.{Add, Mul, Sub}
use Rattle.term_tree.proofs.Forms.{Add-is, Mul-is, Sub-is}

pub not_add : (t : Term) → ((a b : Term) → t ≡ Add a b → ⊥) → (f : Term → Term → Meant) → fits_add t f ≡ Unfit
not_add (add a b) h f = absurd (h a b (sym (Add-is a b)))
not_add _ h f = refl

pub is_add : (t : Term) (a b : Term) → t ≡ Add a b → t ≡ add a b
is_add t a b h = h ∙ Add-is a b

pub ruleset add_parts = (not_add, is_add)

pub not_sub : (t : Term) → ((a b : Term) → t ≡ Sub a b → ⊥) → (f : Term → Term → Meant) → fits_sub t f ≡ Unfit
not_sub (sub a b) h f = absurd (h a b (sym (Sub-is a b)))
not_sub _ h f = refl

pub is_sub : (t : Term) (a b : Term) → t ≡ Sub a b → t ≡ sub a b
is_sub t a b h = h ∙ Sub-is a b

pub ruleset sub_parts = (not_sub, is_sub)

pub not_mul : (t : Term) → ((a b : Term) → t ≡ Mul a b → ⊥) → (f : Term → Term → Meant) → fits_mul t f ≡ Unfit
not_mul (mul a b) h f = absurd (h a b (sym (Mul-is a b)))
not_mul _ h f = refl

pub is_mul : (t : Term) (a b : Term) → t ≡ Mul a b → t ≡ mul a b
is_mul t a b h = h ∙ Mul-is a b

pub ruleset mul_parts = (not_mul, is_mul)

pub not_lit : (t : Term) → ((w : ℕ) → t ≡ Lit w → ⊥) → (f : ℕ → Meant) → fits_lit t f ≡ Unfit
not_lit (Lit w) h f = absurd (h w refl)
not_lit _ h f = refl
