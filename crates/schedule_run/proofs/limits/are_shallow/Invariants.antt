use Rattle.std.proofs.Common.{◌≡◌, length}
use Rattle.schedule_run.specs.Verdict.{are_shallow}
use Rattle.schedule_run.proofs.limits.are_shallow.Given as goal

abbrev pub invariant-loop-outputs : goal.invariant-loop-outputs
invariant-loop-outputs l = are_shallow l.outputs ≡ are_shallow l.initial.outputs

abbrev pub decreases-loop-outputs : goal.decreases-loop-outputs
decreases-loop-outputs l = length l.outputs
