use Rattle.std.proofs.Common.{sym, subst, ◌∙◌}
use Rattle.path_focus.specs.Outcome.{IsDraft}
use Rattle.term_tree.specs.Syntax.{guard}
use Rattle.term_tree.specs.declared.term.Term.{Term, Lit}
use Rattle.rules_guard.proofs.OutwardLaws.{same_cond}
use Rattle.rules_guard.proofs.outward.under.Goals as goal

pub returns : goal.returns
returns c = λ d h.
    let e = same_cond c.in-Some.cond.now d _ (Lit 0) (sym c.in-Some.ensures ∙ h) in
    subst (λ (t : Term). IsDraft t c.whole.result) (c.in_ok-term.ensures {u = tt}
    ∙ (λ i. guard ((c.in_ok-cond.ensures {u = tt} ∙ e) i) (c.in_ok-rows.ensures {u = tt} i))) c.whole.ensures
