use Rattle.rules_shape.proofs.RowLaws.{concat_index_left_keeps as law}
use Rattle.rules_shape.proofs.laws.concat_index_left_keeps.Goals as goal

pub returns : goal.returns
returns c = law
