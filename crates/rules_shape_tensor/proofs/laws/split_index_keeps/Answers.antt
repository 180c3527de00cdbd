use Rattle.rules_shape_tensor.proofs.ColumnLaws.{split_index_keeps as law}
use Rattle.rules_shape_tensor.proofs.laws.split_index_keeps.Goals as goal

pub returns : goal.returns
returns c = law
