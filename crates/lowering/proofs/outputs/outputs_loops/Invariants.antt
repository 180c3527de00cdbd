use Rattle.std.proofs.Common.{◌≡◌, ◌++◌, drop}
use Rattle.lowering.specs.Outputs.{outputs_in}
use Rattle.lowering.proofs.outputs.outputs_loops.Given as goal

abbrev pub invariant-loop-i : goal.invariant-loop-i
invariant-loop-i l = record {
  scene : l.scene ≡ l.initial.scene;
  rest : l.all ++ outputs_in l.initial.scene l.paths (drop l.i l.outputs) l.i ≡ outputs_in l.initial.scene l.paths l.outputs 0;
}
