use Rattle.std.proofs.Common.{◌∙◌, ap}
use Rattle.term_tree.specs.Scope.{term_scoped}
use Rattle.shape_rows.proofs.tests.is_joined.Goals as goal

pub shape-requires-clause-scoped : goal.shape-requires-clause-scoped
shape-requires-clause-scoped c = (
  0,
  0,
  ap (λ n. term_scoped 0 c.get.result.now 0 n) ((c.in_ok-shapes.ensures {u = tt}).1)
      ∙ ap (λ e. term_scoped 0 e 0 2) c.get.ensures ∙ c.in_ok-term.ensures {u = tt},
)
