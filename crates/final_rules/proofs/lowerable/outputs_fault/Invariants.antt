use Rattle.std.proofs.Common.{◌≡◌, drop}
use Rattle.shape_rules.specs.Scopes.{given}
use Rattle.region_plan.specs.Shaped.{EachShaped}
use Rattle.final_rules.specs.Rules.{form_fault}
use Rattle.final_rules.proofs.lowerable.outputs_fault.Given as goal

abbrev pub invariant-loop-i : goal.invariant-loop-i
invariant-loop-i l = record {
  shaped : EachShaped l.initial.shapes (drop l.i l.outputs);
  shapes : l.shapes ≡ l.initial.shapes;
  rest : form_fault l.i (drop l.i l.outputs) (given l.initial.shapes) ≡ form_fault 0 l.outputs (given l.initial.shapes);
}
