use Rattle.std.proofs.Common.{◌≡◌, IfOk, subst}
use Rattle.affine_index.specs.Put.{put_var}
use Rattle.affine_index.specs.declared.form.Items.{Items}
use Rattle.fact_list.specs.Facts.{where_normal}
use Rattle.rules_loop.proofs.one_turn.at_zero.Goals as goal

pub returns : goal.returns
returns c =
    subst (λ (z : Items). IfOk c.if_normal.result (λ o. o ≡ where_normal (put_var 0 z c.args.g.now))) (c.in_ok-zero.ensures {u = tt})
    (c.if_normal.ensures (put_var 0 c.in_ok-zero.zero c.args.g.now) c.put_var.ensures.form)
