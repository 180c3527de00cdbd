use Rattle.std.proofs.Common.{◌≡◌, IfOk, subst}
use Rattle.affine_index.specs.Sum.{difference_of}
use Rattle.affine_index.specs.declared.form.Items.{Items}
use Rattle.fact_list.specs.Facts.{where_normal}
use Rattle.rules_loop.proofs.one_turn.negated.Goals as goal

pub returns : goal.returns
returns c =
    subst (λ (z : Items). IfOk c.difference_if_normal.result (λ o. o ≡ where_normal (difference_of z c.args.r.now))) (c.in_ok-zero.ensures {u = tt})
    c.difference_if_normal.ensures
