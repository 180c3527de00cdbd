use Rattle.std.proofs.Common.{◌≡◌, ◌+◌, drop}
use Rattle.admission.specs.Admission.{first_false, shown_alone}
use Rattle.admission.proofs.verdict.first_unshown.Given as goal

abbrev pub invariant-loop-at : goal.invariant-loop-at
invariant-loop-at l = first_false 1 (shown_alone l.facts l.goals) ≡ first_false (1 + l.at) (shown_alone l.facts (drop l.at l.goals))
