use Rattle.std.proofs.Common.{◌∙◌, ap}
use Rattle.term_tree.specs.Scope.{term_scoped}
use Rattle.term_tree.specs.Syntax.{split}
use Rattle.term_tree.proofs.Forms.{Split-is}
use Rattle.shape_rows.proofs.tests.chunked.Goals as goal

pub returns : goal.returns
returns c =
    ap (λ e. term_scoped 0 e 0 2) (c.in_ok-term.ensures {u = tt} ∙ Split-is 1 c.in_ok-input.input ∙ ap (split 1) (c.in_ok-input.ensures {u = tt}))
