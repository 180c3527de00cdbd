use Rattle.std.proofs.Common.{◌∙◌, ap}
use Rattle.term_tree.specs.Scope.{term_scoped}
use Rattle.term_tree.specs.declared.term.Term.{TVar}
use Rattle.term_tree.specs.declared.term.Term.TheVariants.{Add}
use Rattle.region_rows.proofs.ScopeForms.{scope-Add}
use Rattle.region_rows.proofs.plans.total.Goals as goal

pub returns : goal.returns
returns c =
    ap (λ e. term_scoped 2 e 0 4) (c.in_ok-term.ensures ∙ (λ i. Add (c.in_ok-left.ensures i) (c.in_ok-right.ensures i))) ∙ scope-Add 2 0 4 (TVar 1) (TVar 0)
