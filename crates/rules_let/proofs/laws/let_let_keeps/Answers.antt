use Rattle.rules_let.proofs.NestingLaws.{let_let_keeps as law}
use Rattle.rules_let.proofs.laws.let_let_keeps.Goals as goal

pub returns : goal.returns
returns c = law
