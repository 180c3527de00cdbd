use Rattle.rules_loop.proofs.UnetaLaws.{uneta_keeps as law}
use Rattle.rules_loop.proofs.laws.uneta_keeps.Goals as goal

pub returns : goal.returns
returns c = law
