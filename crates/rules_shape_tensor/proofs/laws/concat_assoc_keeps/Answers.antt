use Rattle.rules_shape_tensor.proofs.TensorLaws.{concat_assoc_keeps as law}
use Rattle.rules_shape_tensor.proofs.laws.concat_assoc_keeps.Goals as goal

pub returns : goal.returns
returns c = law
