use Rattle.std.proofs.Common.{subst, IfOk}
use Rattle.affine_index.specs.Form.{var_form}
use Rattle.affine_index.specs.Put.{shifted}
use Rattle.path_focus.specs.Making.{in_tile}
use Rattle.path_focus.specs.Outcome.{IsDraft}
use Rattle.term_tree.specs.Syntax.{index}
use Rattle.term_tree.specs.declared.term.Term.{Term}
use Rattle.rules_shape_tensor.proofs.columns.turned_place.Goals as goal

pub returns : goal.returns
returns c =
    let at = in_tile c.args.k (shifted 0 1 c.args.x.now) (var_form 0) in
    subst (λ (e : Term). IfOk c.index_with.result (IsDraft (index e at))) (c.in_ok-raised.ensures {u = tt})
    (c.index_with.ensures at c.in_ok-raised.field-0 (c.in_ok-at.ensures {u = tt}) c.whole-array.ensures)
