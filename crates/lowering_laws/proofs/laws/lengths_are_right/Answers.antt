use Rattle.lowering_laws.proofs.Joined.{lengths_are_right}
use Rattle.lowering_laws.proofs.laws.lengths_are_right.Goals as goal

pub returns : goal.returns
returns c = lengths_are_right
