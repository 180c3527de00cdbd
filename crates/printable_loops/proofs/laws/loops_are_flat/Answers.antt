use Rattle.printable_loops.proofs.Whole.{loops_are_flat}
use Rattle.printable_loops.proofs.laws.loops_are_flat.Goals as goal

pub returns : goal.returns
returns c = loops_are_flat
