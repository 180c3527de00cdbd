use Rattle.std.proofs.Common.{◌∙◌, ap, refl}
use Rattle.std.specs.Prelude.{true}
use Rattle.std.proofs.lemmas.Bool.{and_from}
use Rattle.term_tree.specs.Scope.{term_scoped}
use Rattle.term_tree.specs.Syntax.{add}
use Rattle.term_tree.proofs.Forms.{Add-is}
use Rattle.shape_rows.proofs.tests.added.Goals as goal

pub returns : goal.returns
returns c =
    ap (λ e. term_scoped 0 e 0 2)
    (c.in_ok-term.ensures {u = tt} ∙ Add-is c.args.first c.in_ok-right.right ∙ (λ i. add c.args.first (c.in_ok-right.ensures {u = tt} i)))
    ∙ and_from (term_scoped 0 c.args.first 0 2) true c.requires.first refl
