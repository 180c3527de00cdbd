use Rattle.rules_shape.proofs.RowLaws.{truncl_index_keeps as law}
use Rattle.rules_shape.proofs.laws.truncl_index_keeps.Goals as goal

pub returns : goal.returns
returns c = law
