use Rattle.rules_shape.proofs.RowLaws.{padl_index_keeps as law}
use Rattle.rules_shape.proofs.laws.padl_index_keeps.Goals as goal

pub returns : goal.returns
returns c = law
