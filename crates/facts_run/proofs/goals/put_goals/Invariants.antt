use Rattle.std.proofs.Common.{◌≡◌, ◌+◌, ◌++◌, drop}
use Rattle.facts_run.specs.Claims.{goal_claims}
use Rattle.facts_text.specs.Block.{blocks}
use Rattle.final_rules.specs.Met.{AllCanBeMet}
use Rattle.facts_run.proofs.goals.put_goals.Given as goal

abbrev pub invariant-loop-at : goal.invariant-loop-at
invariant-loop-at l = record {
  told : l.text ++ blocks l.sizes (goal_claims l.finals (l.at + 1) (drop l.at l.goals)) ≡ l.initial.text ++ blocks l.sizes (goal_claims l.finals 1 l.goals);
  met : AllCanBeMet (drop l.at l.goals);
}
