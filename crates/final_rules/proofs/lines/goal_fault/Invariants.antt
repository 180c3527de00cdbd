use Rattle.std.proofs.Common.{◌≡◌, ◌+◌, drop}
use Rattle.final_rules.specs.Met.{AllCanBeMet}
use Rattle.final_rules.specs.Rules.{goal_fault}
use Rattle.final_rules.proofs.lines.goal_fault.Given as goal

abbrev pub invariant-loop-i : goal.invariant-loop-i
invariant-loop-i l = record {
  rest : goal_fault l.finals (l.i + 1) (drop l.i l.goals) ≡ goal_fault l.finals 1 l.goals;
  met : AllCanBeMet (drop l.i l.goals);
}
