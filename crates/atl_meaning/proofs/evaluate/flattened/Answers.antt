use Rattle.std.proofs.lemmas.Result.{IfOk-weaker}
use Rattle.atl_meaning.proofs.evaluate.flattened.Goals as goal

pub returns : goal.returns
returns c = IfOk-weaker c.flatten.result _ _ (λ v e. (c.in_ok-tensor.tensor, c.in_ok-tensor.was {u = tt}, e)) c.flatten.ensures
