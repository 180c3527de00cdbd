use Rattle.rules_shape_tensor.proofs.SplitLaws.{flatten_split_keeps as law}
use Rattle.rules_shape_tensor.proofs.laws.flatten_split_keeps.Goals as goal

pub returns : goal.returns
returns c = law
