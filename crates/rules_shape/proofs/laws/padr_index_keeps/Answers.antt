use Rattle.rules_shape.proofs.RowLaws.{padr_index_keeps as law}
use Rattle.rules_shape.proofs.laws.padr_index_keeps.Goals as goal

pub returns : goal.returns
returns c = law
