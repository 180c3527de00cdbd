use Rattle.printable_loops.proofs.Whole.{texts_are_alone}
use Rattle.printable_loops.proofs.laws.texts_are_alone.Goals as goal

pub returns : goal.returns
returns c = texts_are_alone
