use Rattle.std.proofs.Common.{subst, IfOk}
use Rattle.affine_index.specs.Sum.{sum_of}
use Rattle.affine_index.specs.declared.form.Items.{Items}
use Rattle.rules_shape_gen.specs.Formed.{IsFormed}
use Rattle.rules_shape_gen.proofs.rows.further.Goals as goal

pub returns : goal.returns
returns c =
    subst (λ (i : Items). IfOk c.formed.result (IsFormed (sum_of i c.args.a.now))) (c.in_ok-i.ensures {u = tt})
    (c.formed.ensures (sum_of c.in_ok-i.i c.args.a.now) c.add.ensures.form)
