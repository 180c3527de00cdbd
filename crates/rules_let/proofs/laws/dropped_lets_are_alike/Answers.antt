use Rattle.rules_let.proofs.DropLaws.{drops_alike as law}
use Rattle.rules_let.proofs.laws.dropped_lets_are_alike.Goals as goal

pub returns : goal.returns
returns c = law
