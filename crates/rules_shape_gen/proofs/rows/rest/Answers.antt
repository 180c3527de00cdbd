use Rattle.std.proofs.Common.{subst, IfOk}
use Rattle.affine_index.specs.declared.form.Items.{Items}
use Rattle.path_focus.specs.Making.{rest_below}
use Rattle.rules_shape_gen.specs.Formed.{IsFormed}
use Rattle.rules_shape_gen.proofs.rows.rest.Goals as goal

pub returns : goal.returns
returns c =
    subst (λ (i : Items). IfOk c.formed.result (IsFormed (rest_below c.args.n.now i))) (c.in_ok-i.ensures {u = tt})
    (c.formed.ensures (rest_below c.args.n.now c.in_ok-i.i) c.rest_below.ensures)
