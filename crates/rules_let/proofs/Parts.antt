-- A let, or a term of another form.
use Rattle.std.proofs.Common.{◌≡◌, refl, sym, ◌∙◌}
use Rattle.path_focus.specs.Outcome.{Meant, Unfit, Unlike}
use Rattle.rules_let.specs.Operators.{with_let}
use Rattle.rules_let.specs.Table.{on_let}
use Rattle.term_tree.specs.Syntax.{let_in}
use Rattle.term_tree.specs.declared.term.Term.{Term}
use Rattle.term_tree.specs.declared.term.Term.TheVariants.{Let}
use Rattle.term_tree.proofs.Forms.{Let-is}

pub not_let : (t : Term) → ((a b : Term) → t ≡ Let a b → ⊥) → (f : Term → Term → Meant) → on_let t f ≡ Unlike
not_let (let_in a b) h f = absurd (h a b (sym (Let-is a b)))
not_let _ h f = refl

pub no_let_child : (t : Term) → ((a b : Term) → t ≡ Let a b → ⊥) → (f : Term → Term → Meant) → with_let t f ≡ Unfit
no_let_child (let_in a b) h f = absurd (h a b (sym (Let-is a b)))
no_let_child _ h f = refl

pub is_let : (t a b : Term) → t ≡ Let a b → t ≡ let_in a b
is_let t a b h = h ∙ Let-is a b

pub ruleset let_parts = (not_let, no_let_child, is_let)
