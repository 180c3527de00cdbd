use Rattle.rules_loop.proofs.EtaLaws.{eta_keeps as law}
use Rattle.rules_loop.proofs.laws.eta_keeps.Goals as goal

pub returns : goal.returns
returns c = law
