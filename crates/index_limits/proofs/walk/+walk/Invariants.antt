use Rattle.std.proofs.Common.{◌+◌, ◌*◌}
use Rattle.term_tree.specs.Counts.{node_count}
use Rattle.index_limits.proofs.walk.+walk.Given as goal

abbrev pub decreases-term_indices : goal.decreases-term_indices
decreases-term_indices l = 4 * node_count l.term.now

abbrev pub decreases-two_indices : goal.decreases-two_indices
decreases-two_indices l = 4 * (node_count l.a.now + node_count l.b.now) + 1

abbrev pub decreases-sum_indices : goal.decreases-sum_indices
decreases-sum_indices l = 4 * (node_count l.a.now + node_count l.b.now) + 2

abbrev pub decreases-joined_indices : goal.decreases-joined_indices
decreases-joined_indices l = 4 * (node_count l.a.now + node_count l.b.now) + 2

abbrev pub decreases-bound_indices : goal.decreases-bound_indices
decreases-bound_indices l = 4 * node_count l.part.now + 1

abbrev pub decreases-guard_indices : goal.decreases-guard_indices
decreases-guard_indices l = 4 * node_count l.part.now + 1

abbrev pub decreases-reshaped_indices : goal.decreases-reshaped_indices
decreases-reshaped_indices l = 4 * node_count l.part.now + 1

abbrev pub decreases-definition_indices : goal.decreases-definition_indices
decreases-definition_indices l = 4 * node_count l.a.now + 1

abbrev pub decreases-body_indices : goal.decreases-body_indices
decreases-body_indices l = 4 * node_count l.b.now + 1

abbrev pub decreases-let_indices : goal.decreases-let_indices
decreases-let_indices l = 4 * (node_count l.a.now + node_count l.b.now) + 2
