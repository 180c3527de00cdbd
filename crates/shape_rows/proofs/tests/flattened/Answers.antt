use Rattle.std.proofs.Common.{◌∙◌, ap}
use Rattle.term_tree.specs.Scope.{term_scoped}
use Rattle.term_tree.specs.Syntax.{flatten}
use Rattle.term_tree.proofs.Forms.{Flatten-is}
use Rattle.shape_rows.proofs.tests.flattened.Goals as goal

pub returns : goal.returns
returns c =
    ap (λ e. term_scoped 0 e 0 2) (c.in_ok-term.ensures {u = tt} ∙ Flatten-is c.in_ok-input.input ∙ ap flatten (c.in_ok-input.ensures {u = tt}))
