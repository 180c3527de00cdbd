use Rattle.rules_let.proofs.InliningLaws.{let_drop_keeps as law}
use Rattle.rules_let.proofs.laws.let_drop_keeps.Goals as goal

pub returns : goal.returns
returns c = law
