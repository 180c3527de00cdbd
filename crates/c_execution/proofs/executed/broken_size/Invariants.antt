use Rattle.std.proofs.Common.{◌≡◌, ◌+◌, drop}
use Rattle.c_execution.specs.Executed.{broken_from_1, broken_size}
use Rattle.c_execution.proofs.executed.broken_size.Given as goal

abbrev pub invariant-loop-at : goal.invariant-loop-at
invariant-loop-at l = broken_from_1 l.sizes ≡ broken_size (1 + l.at) (drop l.at l.sizes)
