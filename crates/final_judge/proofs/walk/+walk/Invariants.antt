use Rattle.std.proofs.Common.{◌+◌, ◌*◌}
use Rattle.term_tree.specs.Counts.{node_count}
use Rattle.final_judge.proofs.walk.+walk.Given as goal

abbrev pub decreases-term_goals : goal.decreases-term_goals
decreases-term_goals l = 4 * node_count l.term.now

abbrev pub decreases-two_goals : goal.decreases-two_goals
decreases-two_goals l = 4 * (node_count l.a.now + node_count l.b.now) + 1

abbrev pub decreases-sum_goals : goal.decreases-sum_goals
decreases-sum_goals l = 4 * (node_count l.a.now + node_count l.b.now) + 2

abbrev pub decreases-joined_goals : goal.decreases-joined_goals
decreases-joined_goals l = 4 * (node_count l.a.now + node_count l.b.now) + 2

abbrev pub decreases-part_goals : goal.decreases-part_goals
decreases-part_goals l = 4 * node_count l.part.now + 1

abbrev pub decreases-let_goals : goal.decreases-let_goals
decreases-let_goals l = 4 * (node_count l.a.now + node_count l.b.now) + 1
