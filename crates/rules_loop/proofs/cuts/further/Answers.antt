use Rattle.std.proofs.Common.{◌≡◌, subst, IfOk}
use Rattle.affine_index.specs.Sum.{sum_of}
use Rattle.affine_index.specs.declared.form.Items.{Items}
use Rattle.fact_list.specs.Facts.{where_normal}
use Rattle.rules_loop.proofs.cuts.further.Goals as goal

pub returns : goal.returns
returns c =
    subst (λ (i : Items). IfOk c.if_normal.result (λ o. o ≡ where_normal (sum_of i c.args.x.now))) (c.in_ok-innermost.ensures {u = tt})
    (c.if_normal.ensures (sum_of c.in_ok-innermost.innermost c.args.x.now) c.add.ensures.form)
