use Rattle.rules_shape_tensor.proofs.ColumnLaws.{transpose_index_keeps as law}
use Rattle.rules_shape_tensor.proofs.laws.transpose_index_keeps.Goals as goal

pub returns : goal.returns
returns c = law
