use Rattle.std.proofs.Common.{subst, IfOk}
use Rattle.path_focus.specs.Making.{tile_rest}
use Rattle.path_focus.specs.Outcome.{IsDraft}
use Rattle.term_tree.specs.Syntax.{pad_r}
use Rattle.term_tree.specs.declared.term.Term.{Term}
use Rattle.rules_shape_tensor.proofs.tensors.filled_up.Goals as goal

pub returns : goal.returns
returns c =
    let rest = tile_rest c.args.k c.args.n.now in
    subst (λ (e : Term). IfOk c.pad_with.result (IsDraft (pad_r rest e))) (c.in_ok-copied.ensures {u = tt})
    (c.pad_with.ensures rest c.in_ok-copied.field-0 (c.in_ok-rest.ensures {u = tt} rest c.tile_rest.ensures) c.whole-e.ensures)
