use Rattle.lowering_laws.proofs.Joined.{loops_are_right}
use Rattle.lowering_laws.proofs.laws.loops_are_right.Goals as goal

pub returns : goal.returns
returns c = loops_are_right
