use Rattle.rules_shape_tensor.proofs.TensorLaws.{pad_trunc_r_keeps as law}
use Rattle.rules_shape_tensor.proofs.laws.pad_trunc_r_keeps.Goals as goal

pub returns : goal.returns
returns c = law
