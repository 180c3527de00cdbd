use Rattle.std.proofs.Common.{◌≡◌, drop}
use Rattle.region_plan.specs.Shaped.{EachShaped}
use Rattle.final_rules.specs.Printing.{sized}
use Rattle.index_limits.specs.Modules.{outputs_printed}
use Rattle.index_limits.specs.Ready.{OutputsReady}
use Rattle.index_limits.proofs.modules.body.Given as goal

abbrev pub invariant-loop-output : goal.invariant-loop-output
invariant-loop-output l = record {
  shaped : EachShaped l.initial.scene.shapes (drop l.output-index l.outputs);
  ready : OutputsReady l.maxima l.initial.scene (drop l.output-index l.outputs);
  scene : l.scene ≡ l.initial.scene;
  rest : sized l.maxima (outputs_printed l.initial.scene (drop l.output-index l.outputs)) l.number
      ≡ sized l.maxima (outputs_printed l.initial.scene l.outputs) l.fn.first;
}
