use Rattle.std.proofs.Common.{◌≡◌, ◌≤◌, drop, length}
use Rattle.final_rules.specs.Rules.{begins}
use Rattle.final_rules.proofs.marks.begins.Given as goal

abbrev pub invariant-loop-i : goal.invariant-loop-i
invariant-loop-i l = record {
  within : l.i ≤ length l.steps;
  rest : begins (drop l.i l.first) (drop l.i l.steps) ≡ begins l.first l.steps;
}
