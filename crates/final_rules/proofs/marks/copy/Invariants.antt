use Rattle.std.proofs.Common.{◌≡◌, take}
use Rattle.final_rules.proofs.marks.copy.Given as goal

abbrev pub invariant-loop-step : goal.invariant-loop-step
invariant-loop-step l = l.steps ≡ take l.step-index l.path.steps
