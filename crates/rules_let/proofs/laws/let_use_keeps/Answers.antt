use Rattle.rules_let.proofs.UsingLaws.{let_use_keeps as law}
use Rattle.rules_let.proofs.laws.let_use_keeps.Goals as goal

pub returns : goal.returns
returns c = law
