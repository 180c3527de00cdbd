use Rattle.affine_index.specs.Form.{var_form}
use Rattle.affine_index.specs.Sum.{sum_of}
use Rattle.path_focus.specs.Making.{rest_below}
use Rattle.rule_parts.specs.Conds.{at_least}
use Rattle.rules_shape_gen.specs.Rows.{back, row_of}
use Rattle.term_tree.specs.Syntax.{add, guard}
use Rattle.rules_shape_gen.proofs.concats.both_rows.Goals as goal

pub returns : goal.returns
returns c =
    let n = c.args.n.now in
    let m = c.args.m.now in
    let first = guard (at_least (rest_below n (var_form 0))) c.args.a.now in
    let second = guard (at_least (back n)) (row_of m c.args.b.now (back n)) in
    c.gen_with.ensures (sum_of n m) (add first second) (c.in_ok-width.ensures {u = tt})
    (c.in_ok-row.ensures {u = tt} first second (c.in_ok-first.ensures {u = tt}) (c.in_ok-second.ensures {u = tt}))
