use Rattle.lowering_laws.proofs.PrintedBack.{nests_agree}
use Rattle.lowering_laws.proofs.laws.nests_agree.Goals as goal

pub returns : goal.returns
returns c = nests_agree
