use Rattle.std.proofs.lemmas.Result.{IfOk-weaker}
use Rattle.atl_meaning.proofs.extents.transposed.Goals as goal

pub returns : goal.returns
returns c = IfOk-weaker c.in_front-2.result _ _ (λ ds e. (c.in_ok-d.d, c.in_ok-d.was {u = tt}, cc (c.in_ok-others.ensures {u = tt}))) c.in_front-2.ensures
