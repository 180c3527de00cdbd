use Rattle.std.proofs.Common.{◌≡◌, ◌+◌, length}
use Rattle.atl_reader.specs.Source.{deep_from}
use Rattle.atl_reader.proofs.limits.deep.Given as goal

abbrev pub invariant-loop-outputs : goal.invariant-loop-outputs
invariant-loop-outputs l = (deep_from l.at l.outputs ≡ deep_from 0 l.initial.outputs) × (l.at + length l.outputs ≡ length l.initial.outputs)

abbrev pub decreases-loop-outputs : goal.decreases-loop-outputs
decreases-loop-outputs l = length l.outputs
