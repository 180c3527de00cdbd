use Rattle.rules_let.proofs.MovingLaws.{let_index_keeps as law}
use Rattle.rules_let.proofs.laws.let_index_keeps.Goals as goal

pub returns : goal.returns
returns c = law
