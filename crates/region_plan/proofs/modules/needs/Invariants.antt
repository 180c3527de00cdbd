use Rattle.std.proofs.Common.{◌≡◌, drop, []}
use Rattle.shape_rules.specs.Scopes.{given}
use Rattle.region_plan.specs.Needed.{needs_after}
use Rattle.region_plan.specs.Shaped.{EachShaped}
use Rattle.region_plan.proofs.modules.needs.Given as goal

abbrev pub invariant-loop-output : goal.invariant-loop-output
invariant-loop-output l = record {
  shaped : EachShaped l.initial.shapes (drop l.output-index l.outputs);
  shapes : l.shapes ≡ l.initial.shapes;
  rest : needs_after l.all (drop l.output-index l.outputs) (given l.initial.shapes) ≡ needs_after [] l.outputs (given l.initial.shapes);
}
