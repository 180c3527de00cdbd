use Rattle.std.proofs.Common.{◌≡◌, ◌++◌, [], drop, true}
use Rattle.final_rules.specs.Goals.{drops}
use Rattle.final_rules.specs.Rules.{goals_with}
use Rattle.final_judge.specs.Ready.{all_ready}
use Rattle.final_judge.proofs.drops.drop_goals.Given as goal

abbrev pub invariant-loop-node : goal.invariant-loop-node
invariant-loop-node l = record {
  ready : all_ready (drop l.node-index l.around) ≡ true;
  rest : goals_with l.facts (drops l.facts.path (drop l.node-index l.around) l.forms) ++ l.goals ≡ goals_with l.facts (drops l.facts.path l.around []);
}
