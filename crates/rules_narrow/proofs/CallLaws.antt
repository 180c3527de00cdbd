-- What the calls of both rules rest on.
use Rattle.std.proofs.Common.{◌≡◌, refl, sym, Bool, true, false, Some, None, if◌then◌else◌}
use Rattle.affine_index.specs.Normal.{is_normal}
use Rattle.affine_index.specs.declared.cond.Cond.{Cond}
use Rattle.affine_index.specs.declared.form.Items.{Items}
use Rattle.fact_list.specs.Facts.{where_normal}
use Rattle.path_focus.specs.Outcome.{Meant, Unlike}
use Rattle.rules_narrow.specs.Quotients.{on_either}
use Rattle.term_tree.specs.Syntax.{guard, index}
use Rattle.term_tree.specs.declared.term.Term.{Term}
use Rattle.term_tree.specs.declared.term.Term.TheVariants.{Guard, Index}
use Rattle.term_tree.proofs.Forms.{Guard-is, Index-is}

-- a form that is within the limits
pub where_some : (x i : Items) → Some i ≡ where_normal x → i ≡ x
where_some x i h = by (is_normal x) h
  where
    by : (b : Bool) → Some i ≡ (if b then Some x else None) → i ≡ x
    by true k = cc
    by false k = absurd (cc)

-- neither an index nor a guard
pub no_node : (t : Term) → ((e : Term) (x : Items) → t ≡ Index e x → ⊥) → ((c : Cond) (e : Term) → t ≡ Guard c e → ⊥)
    → (g : Term → Items → Meant) (h : Cond → Term → Meant) → on_either t g h ≡ Unlike
no_node (index e x) n k g h = absurd (n e x (sym (Index-is e x)))
no_node (guard c e) n k g h = absurd (k c e (sym (Guard-is c e)))
no_node _ n k g h = refl
