use Rattle.rules_shape_tensor.proofs.SplitLaws.{split_flatten_keeps as law}
use Rattle.rules_shape_tensor.proofs.laws.split_flatten_keeps.Goals as goal

pub returns : goal.returns
returns c = law
