use Rattle.rules_let.proofs.OperatorLaws.{let_op_keeps as law}
use Rattle.rules_let.proofs.laws.let_op_keeps.Goals as goal

pub returns : goal.returns
returns c = law
