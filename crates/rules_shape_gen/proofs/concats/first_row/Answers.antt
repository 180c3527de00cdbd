use Rattle.std.proofs.Common.{subst, IfOk}
use Rattle.affine_index.specs.Form.{var_form}
use Rattle.path_focus.specs.Making.{rest_below}
use Rattle.path_focus.specs.Outcome.{IsDraft}
use Rattle.rule_parts.specs.Conds.{at_least}
use Rattle.term_tree.specs.Syntax.{guard}
use Rattle.term_tree.specs.declared.term.Term.{Term}
use Rattle.rules_shape_gen.proofs.concats.first_row.Goals as goal

pub returns : goal.returns
returns c =
    let until = rest_below c.args.n.now (var_form 0) in
    subst (λ (e : Term). IfOk c.guard_with.result (IsDraft (guard (at_least until) e))) (c.in_ok-copied.ensures {u = tt})
    (c.guard_with.ensures until c.in_ok-copied.field-0 (c.in_ok-until.ensures {u = tt}) c.whole-a.ensures)
