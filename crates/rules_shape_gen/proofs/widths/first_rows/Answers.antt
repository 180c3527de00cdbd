use Rattle.std.proofs.Common.{subst, IfOk}
use Rattle.affine_index.specs.Sum.{difference_of}
use Rattle.path_focus.specs.Outcome.{IsDraft}
use Rattle.term_tree.specs.Syntax.{gen}
use Rattle.term_tree.specs.declared.term.Term.{Term}
use Rattle.rules_shape_gen.proofs.widths.first_rows.Goals as goal

pub returns : goal.returns
returns c =
    let width = difference_of c.args.n.now c.args.a.now in
    subst (λ (e : Term). IfOk c.gen_with.result (IsDraft (gen width e))) (c.in_ok-copied.ensures {u = tt})
    (c.gen_with.ensures width c.in_ok-copied.field-0 (c.in_ok-width.ensures {u = tt}) c.whole-body.ensures)
