use Rattle.std.proofs.Common.{◌≡◌, ◌++◌, drop}
use Rattle.lowering_laws.specs.Marks.{through_child}
use Rattle.lowering.proofs.marks.through_child.Given as goal

abbrev pub invariant-loop-steps : goal.invariant-loop-steps
invariant-loop-steps l = l.inner ++ through_child l.child (drop l.steps-index l.marks) ≡ through_child l.child l.marks
