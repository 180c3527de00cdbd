use Rattle.rules_shape.proofs.RowLaws.{truncr_index_keeps as law}
use Rattle.rules_shape.proofs.laws.truncr_index_keeps.Goals as goal

pub returns : goal.returns
returns c = law
