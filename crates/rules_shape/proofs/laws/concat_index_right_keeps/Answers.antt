use Rattle.rules_shape.proofs.RowLaws.{concat_index_right_keeps as law}
use Rattle.rules_shape.proofs.laws.concat_index_right_keeps.Goals as goal

pub returns : goal.returns
returns c = law
