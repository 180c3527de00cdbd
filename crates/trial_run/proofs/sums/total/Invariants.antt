use Rattle.std.proofs.Common.{◌≡◌, take}
use Rattle.trial_run.specs.TrialRun.{total}
use Rattle.trial_run.proofs.sums.total.Given as goal

abbrev pub invariant-loop-at : goal.invariant-loop-at
invariant-loop-at l = l.total ≡ total (take l.at l.buffers.memory.outputs)
