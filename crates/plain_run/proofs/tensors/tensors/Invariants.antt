use Rattle.std.proofs.Common.{◌≡◌, ◌++◌, drop, map}
use Rattle.atl_meaning.specs.Values.{meant}
use Rattle.plain_run.specs.Shapes.{tensors_of}
use Rattle.plain_run.proofs.tensors.tensors.Given as goal

abbrev pub invariant-loop-at : goal.invariant-loop-at
invariant-loop-at l = map meant l.found ++ tensors_of (drop l.at l.shapes) (drop l.at l.inputs) ≡ tensors_of l.shapes l.inputs
