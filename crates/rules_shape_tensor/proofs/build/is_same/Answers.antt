use Rattle.rules_shape_tensor.proofs.SameForms.{same_is}
use Rattle.rules_shape_tensor.proofs.build.is_same.Goals as goal

pub returns : goal.returns
returns c = same_is c.same.result c.args.x.now c.args.y.now c.same.ensures
