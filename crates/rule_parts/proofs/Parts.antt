-- A term of one form, or of another.
use Rattle.std.proofs.Common.{◌≡◌, refl, sym, ◌∙◌}
use Rattle.affine_index.specs.declared.cond.Cond.{Cond}
use Rattle.affine_index.specs.declared.form.Items.{Items}
use Rattle.path_focus.specs.Outcome.{Meant, Unlike}
use Rattle.rule_parts.specs.Patterns.{on_either, on_gen, on_guard, on_index, on_mul, on_sum}
use Rattle.term_tree.specs.Syntax.{add, gen, guard, index, mul, sub, sum}
use Rattle.term_tree.specs.declared.term.Term.{Term}
use Rattle.term_tree.specs.declared.term.Term.TheVariants.{Add, Gen, Guard, Index, Mul, Sub, Sum}
use Rattle.term_tree.proofs.Forms.{Add-is, Gen-is, Guard-is, Index-is, Mul-is, Sub-is, Sum-is}

pub not_index : (t : Term) → ((e : Term) (x : Items) → t ≡ Index e x → ⊥) → (f : Term → Items → Meant) → on_index t f ≡ Unlike
not_index (index e x) h f = absurd (h e x (sym (Index-is e x)))
not_index _ h f = refl

pub not_gen : (t : Term) → ((n : Items) (e : Term) → t ≡ Gen n e → ⊥) → (f : Items → Term → Meant) → on_gen t f ≡ Unlike
not_gen (gen n e) h f = absurd (h n e (sym (Gen-is n e)))
not_gen _ h f = refl

pub not_sum : (t : Term) → ((n : Items) (e : Term) → t ≡ Sum n e → ⊥) → (f : Items → Term → Meant) → on_sum t f ≡ Unlike
not_sum (sum n e) h f = absurd (h n e (sym (Sum-is n e)))
not_sum _ h f = refl

pub not_guard : (t : Term) → ((c : Cond) (e : Term) → t ≡ Guard c e → ⊥) → (f : Cond → Term → Meant) → on_guard t f ≡ Unlike
not_guard (guard c e) h f = absurd (h c e (sym (Guard-is c e)))
not_guard _ h f = refl

pub not_mul : (t : Term) → ((a b : Term) → t ≡ Mul a b → ⊥) → (f : Term → Term → Meant) → on_mul t f ≡ Unlike
not_mul (mul a b) h f = absurd (h a b (sym (Mul-is a b)))
not_mul _ h f = refl

pub not_either : (t : Term) → ((a b : Term) → t ≡ Add a b → ⊥) → ((a b : Term) → t ≡ Sub a b → ⊥) → (f g : Term → Term → Meant) → on_either t f g ≡ Unlike
not_either (add a b) h k f g = absurd (h a b (sym (Add-is a b)))
not_either (sub a b) h k f g = absurd (k a b (sym (Sub-is a b)))
not_either _ h k f g = refl

pub is_index : (t e : Term) (x : Items) → t ≡ Index e x → t ≡ index e x
is_index t e x h = h ∙ Index-is e x

pub is_gen : (t : Term) (n : Items) (e : Term) → t ≡ Gen n e → t ≡ gen n e
is_gen t n e h = h ∙ Gen-is n e

pub is_sum : (t : Term) (n : Items) (e : Term) → t ≡ Sum n e → t ≡ sum n e
is_sum t n e h = h ∙ Sum-is n e

pub is_guard : (t : Term) (c : Cond) (e : Term) → t ≡ Guard c e → t ≡ guard c e
is_guard t c e h = h ∙ Guard-is c e

pub is_mul : (t a b : Term) → t ≡ Mul a b → t ≡ mul a b
is_mul t a b h = h ∙ Mul-is a b

pub ruleset index_parts = (not_index, is_index)

pub ruleset gen_parts = (not_gen, is_gen)

pub ruleset sum_parts = (not_sum, is_sum)

pub ruleset guard_parts = (not_guard, is_guard)

pub ruleset mul_parts = (not_mul, is_mul)
