use Rattle.std.proofs.Common.{◌-◌, length}
use Rattle.lowering.proofs.literals.+told_from.Given as goal

abbrev pub decreases-told_from : goal.decreases-told_from
decreases-told_from l = length l.outputs.now - l.from
