use Rattle.std.proofs.Common.{◌≡◌, subst, IfOk}
use Rattle.affine_index.specs.Sum.{sum_of}
use Rattle.affine_index.specs.declared.form.Items.{Items}
use Rattle.fact_list.specs.Facts.{where_normal}
use Rattle.rules_narrow.proofs.range.further.Goals as goal

pub returns-in-Ok : goal.returns-in-Ok
returns-in-Ok c =
    subst (λ (i : Items). IfOk c.if_normal.result (λ o. o ≡ where_normal (sum_of i c.args.x.now))) c.in-Ok.ensures
    (c.if_normal.ensures (sum_of c.in-Ok.turn c.args.x.now) c.add.ensures.form)
