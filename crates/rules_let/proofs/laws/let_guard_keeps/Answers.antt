use Rattle.rules_let.proofs.MovingLaws.{let_guard_keeps as law}
use Rattle.rules_let.proofs.laws.let_guard_keeps.Goals as goal

pub returns : goal.returns
returns c = law
