use Rattle.std.proofs.Common.{drop}
use Rattle.shape_rules.specs.Admitted.{AllShown}
use Rattle.meaning_rows.proofs.check.all_shown.Given as goal

abbrev pub invariant-loop-goal : goal.invariant-loop-goal
invariant-loop-goal l = AllShown l.facts (drop l.goal-index l.goals) → AllShown l.facts l.goals
