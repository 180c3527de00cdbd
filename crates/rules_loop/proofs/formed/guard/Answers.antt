use Rattle.std.proofs.Common.{◌≡◌, subst, IfOk, ◌∙◌}
use Rattle.term_tree.specs.Syntax as tree
use Rattle.term_tree.specs.declared.term.Term.{Term}
use Rattle.term_tree.proofs.Forms.{Guard-is}
use Rattle.rules_loop.proofs.formed.guard.Goals as goal

pub returns : goal.returns
returns c =
    subst (λ (t : Term). IfOk c.boxed.result (λ e. e ≡ t))
    (Guard-is (record { all = c.in_ok-all.all }) c.args.body ∙ (λ i. tree.guard (record { all = c.in_ok-all.ensures {u = tt} i }) c.args.body))
    c.boxed.ensures
