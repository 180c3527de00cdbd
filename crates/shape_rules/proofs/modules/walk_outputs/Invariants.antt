use Rattle.std.proofs.Common.{◌≡◌, ◌++◌, drop, true}
use Rattle.term_tree.specs.Modules.{outputs_goals}
use Rattle.shape_rules.specs.Faults.{AllBefore, HasOne}
use Rattle.shape_rules.specs.Plain.{all_plain}
use Rattle.shape_rules.specs.Scopes.{scope}
use Rattle.shape_rules.proofs.modules.walk_outputs.Given as goal

abbrev pub invariant-loop-i : goal.invariant-loop-i
invariant-loop-i l = record {
  bound : l.progress.bound ≡ l.initial.progress.bound;
  plain : all_plain (drop l.i l.outputs) ≡ true;
  goals : l.progress.goals ++ outputs_goals (drop l.i l.outputs) (scope l.shapes l.initial.progress.bound) ≡ l.initial.progress.goals
      ++ outputs_goals l.outputs (scope l.shapes l.initial.progress.bound);
  shaped : AllBefore (HasOne (scope l.shapes l.initial.progress.bound)) l.i l.outputs;
}
