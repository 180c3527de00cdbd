use Rattle.std.proofs.Common.{◌∙◌, ap}
use Rattle.term_tree.specs.Scope.{term_scoped}
use Rattle.term_tree.specs.Syntax.{concat}
use Rattle.term_tree.proofs.Forms.{Concat-is}
use Rattle.shape_rows.proofs.tests.joined.Goals as goal

pub returns : goal.returns
returns c =
    ap (λ e. term_scoped 0 e 0 2)
    (c.in_ok-term.ensures {u = tt} ∙ Concat-is c.in_ok-left.left c.in_ok-right.right
    ∙ (λ i. concat (c.in_ok-left.ensures {u = tt} i) (c.in_ok-right.ensures {u = tt} i)))
