use Rattle.lowering_laws.proofs.WellFormed.{accepted_is_formed}
use Rattle.lowering_laws.proofs.laws.accepted_is_formed.Goals as goal

pub returns : goal.returns
returns c = accepted_is_formed
