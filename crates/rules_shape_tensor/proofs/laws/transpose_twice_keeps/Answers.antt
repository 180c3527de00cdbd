use Rattle.rules_shape_tensor.proofs.TensorLaws.{transpose_twice_keeps as law}
use Rattle.rules_shape_tensor.proofs.laws.transpose_twice_keeps.Goals as goal

pub returns : goal.returns
returns c = law
