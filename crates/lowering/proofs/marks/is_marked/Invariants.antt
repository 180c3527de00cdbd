use Rattle.std.proofs.Common.{◌≡◌, drop}
use Rattle.lowering_laws.specs.Marks.{is_marked}
use Rattle.lowering.proofs.marks.is_marked.Given as goal

abbrev pub invariant-loop-steps : goal.invariant-loop-steps
invariant-loop-steps l = is_marked (drop l.steps-index l.marks) ≡ is_marked l.marks
