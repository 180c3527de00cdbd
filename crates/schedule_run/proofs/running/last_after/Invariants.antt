use Rattle.std.proofs.Common.{◌≡◌, ◌+◌, length}
use Rattle.schedule_run.specs.Versions.{IsVersion, last_from}
use Rattle.schedule_run.proofs.running.last_after.Given as goal

abbrev pub invariant-loop-steps : goal.invariant-loop-steps
invariant-loop-steps l = record {
  rest : last_from l.number l.version l.steps ≡ last_from 0 l.fn.module l.initial.steps;
  counted : l.number + length l.steps ≡ length l.initial.steps;
  kept : IsVersion l.fn.module l.version;
}

abbrev pub decreases-loop-steps : goal.decreases-loop-steps
decreases-loop-steps l = length l.steps
