use Rattle.std.proofs.Common.{◌≡◌, ◌+◌, ◌-◌, ◌^◌, ◌≤◌, length}
use Rattle.std.specs.Prelude.{min}
use Rattle.source_grammar.specs.Source.{nodes}
use Rattle.schedule_run.proofs.limits.all_nodes.Given as goal

abbrev pub invariant-loop-outputs : goal.invariant-loop-outputs
invariant-loop-outputs l = record {
  nodes : min (l.total + nodes l.outputs) (2 ^ 64 - 1) ≡ min (nodes l.initial.outputs) (2 ^ 64 - 1);
  within : l.total ≤ 2 ^ 64 - 1;
}

abbrev pub decreases-loop-outputs : goal.decreases-loop-outputs
decreases-loop-outputs l = length l.outputs
