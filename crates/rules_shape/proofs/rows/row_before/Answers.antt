use Rattle.std.proofs.Common.{subst, IfOk}
use Rattle.affine_index.specs.Sum.{difference_of}
use Rattle.path_focus.specs.Outcome.{IsDraft}
use Rattle.term_tree.specs.Syntax.{index}
use Rattle.term_tree.specs.declared.term.Term.{Term}
use Rattle.rules_shape.proofs.rows.row_before.Goals as goal

pub returns : goal.returns
returns c =
    let at = difference_of c.args.x.now c.args.a.now in
    subst (λ (e : Term). IfOk c.index_with.result (IsDraft (index e at))) (c.in_ok-copied.ensures {u = tt})
    (c.index_with.ensures at c.in_ok-copied.field-0 (c.in_ok-at.ensures {u = tt} at c.sub.ensures.form) c.whole-array.ensures)
