use Rattle.rules_let.proofs.NestingLaws.{let_intro_keeps as law}
use Rattle.rules_let.proofs.laws.let_intro_keeps.Goals as goal

pub returns : goal.returns
returns c = law
