use Rattle.std.proofs.Common.{◌≡◌, drop}
use Rattle.final_rules.specs.Rules.{part_at}
use Rattle.final_rules.proofs.marks.part_at.Given as goal

abbrev pub invariant-loop-step : goal.invariant-loop-step
invariant-loop-step l = part_at (drop l.step-index l.steps) l.part ≡ part_at l.steps l.fn.term
