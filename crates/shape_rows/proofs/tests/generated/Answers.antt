use Rattle.std.proofs.Common.{◌∙◌, ap, refl}
use Rattle.std.specs.Prelude.{true}
use Rattle.std.proofs.lemmas.Bool.{and_from}
use Rattle.affine_index.specs.Limited.{items_scoped}
use Rattle.term_tree.specs.Scope.{term_scoped}
use Rattle.term_tree.specs.Syntax.{gen}
use Rattle.term_tree.proofs.Forms.{Gen-is}
use Rattle.shape_rows.proofs.tests.generated.Goals as goal

pub returns : goal.returns
returns c =
    ap (λ e. term_scoped 1 e 0 0)
    (c.in_ok-term.ensures {u = tt} ∙ Gen-is c.in_ok-extent.extent c.in_ok-body.body ∙ ap (gen c.in_ok-extent.extent) (c.in_ok-body.ensures {u = tt}))
    ∙ and_from (items_scoped 1 0 c.in_ok-extent.extent) true (c.in_ok-extent.ensures {u = tt}) refl
