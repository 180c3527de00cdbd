use Rattle.std.proofs.Common.{◌≡◌, drop}
use Rattle.shape_rules.specs.Admitted.{each_normal}
use Rattle.shape_rules.proofs.modules.normal_told.Given as goal

abbrev pub invariant-loop-goal : goal.invariant-loop-goal
invariant-loop-goal l = each_normal (drop l.goal-index l.goals) ≡ each_normal l.goals
