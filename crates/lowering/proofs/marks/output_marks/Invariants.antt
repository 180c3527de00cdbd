use Rattle.std.proofs.Common.{◌≡◌, ◌++◌, drop}
use Rattle.lowering_laws.specs.Marks.{output_marks}
use Rattle.lowering.proofs.marks.output_marks.Given as goal

abbrev pub invariant-loop-path : goal.invariant-loop-path
invariant-loop-path l = l.marks ++ output_marks l.output (drop l.path-index l.paths) ≡ output_marks l.output l.paths
