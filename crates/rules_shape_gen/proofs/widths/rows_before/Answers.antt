use Rattle.std.proofs.Common.{subst, IfOk}
use Rattle.affine_index.specs.Form.{var_form}
use Rattle.affine_index.specs.Sum.{sum_of}
use Rattle.path_focus.specs.Making.{rest_below}
use Rattle.path_focus.specs.Outcome.{IsDraft}
use Rattle.rule_parts.specs.Conds.{at_least}
use Rattle.term_tree.specs.Syntax.{gen, guard}
use Rattle.term_tree.specs.declared.term.Term.{Term}
use Rattle.rules_shape_gen.proofs.widths.rows_before.Goals as goal

pub returns : goal.returns
returns c =
    let n = c.args.n.now in
    let width = sum_of n c.args.a.now in
    let until = rest_below n (var_form 0) in
    subst (λ (e : Term). IfOk c.gen_with.result (IsDraft (gen width (guard (at_least until) e)))) (c.in_ok-copied.ensures {u = tt})
    (c.gen_with.ensures width (guard (at_least until) c.in_ok-copied.field-0) (c.in_ok-width.ensures {u = tt})
    (c.in_ok-guarded.ensures {u = tt} until c.in_ok-copied.field-0 (c.in_ok-until.ensures {u = tt}) c.whole-body.ensures))
