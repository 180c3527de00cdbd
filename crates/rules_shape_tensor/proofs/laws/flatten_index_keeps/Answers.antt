use Rattle.rules_shape_tensor.proofs.PlaceLaws.{flatten_index_keeps as law}
use Rattle.rules_shape_tensor.proofs.laws.flatten_index_keeps.Goals as goal

pub returns : goal.returns
returns c = law
