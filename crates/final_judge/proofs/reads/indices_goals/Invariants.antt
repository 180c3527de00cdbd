use Rattle.std.proofs.Common.{◌≡◌, ◌-◌, ◌++◌, drop, length}
use Rattle.final_rules.specs.Goals.{index_claims}
use Rattle.final_rules.specs.Rules.{goals_with}
use Rattle.final_judge.proofs.reads.indices_goals.Given as goal

abbrev pub invariant-loop-at : goal.invariant-loop-at
invariant-loop-at l =
    l.goals ++ goals_with l.facts (index_claims l.facts.path (drop l.at l.indices) (drop l.at l.extents))
    ≡ l.initial.goals ++ goals_with l.facts (index_claims l.facts.path l.indices l.extents)

abbrev pub decreases-loop-at : goal.decreases-loop-at
decreases-loop-at l = length l.indices - l.at
