-- A term of one form, or of another.
use Rattle.std.proofs.Common.{◌≡◌, refl, sym, ◌∙◌}
use Rattle.path_focus.specs.Outcome.{Meant, Unlike}
use Rattle.rules_loop.specs.Patterns.{on_add, on_flatten}
use Rattle.term_tree.specs.Syntax.{add, flatten}
use Rattle.term_tree.specs.declared.term.Term.{Term}
use Rattle.term_tree.specs.declared.term.Term.TheVariants.{Add, Flatten}
use Rattle.term_tree.proofs.Forms.{Add-is, Flatten-is}

pub not_flatten : (t : Term) → ((e : Term) → t ≡ Flatten e → ⊥) → (f : Term → Meant) → on_flatten t f ≡ Unlike
not_flatten (flatten e) h f = absurd (h e (sym (Flatten-is e)))
not_flatten _ h f = refl

pub not_add : (t : Term) → ((a b : Term) → t ≡ Add a b → ⊥) → (f : Term → Term → Meant) → on_add t f ≡ Unlike
not_add (add a b) h f = absurd (h a b (sym (Add-is a b)))
not_add _ h f = refl

pub is_add : (t a b : Term) → t ≡ Add a b → t ≡ add a b
is_add t a b h = h ∙ Add-is a b

pub is_flatten : (t e : Term) → t ≡ Flatten e → t ≡ flatten e
is_flatten t e h = h ∙ Flatten-is e

pub ruleset flatten_parts = (not_flatten, is_flatten)

pub ruleset add_parts = (not_add, is_add)
