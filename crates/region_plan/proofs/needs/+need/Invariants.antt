use Rattle.std.proofs.Common.{◌+◌, ◌*◌}
use Rattle.term_tree.specs.Counts.{node_count}
use Rattle.region_plan.proofs.needs.+need.Given as goal

abbrev pub decreases-need : goal.decreases-need
decreases-need l = 2 * node_count l.term.now

abbrev pub decreases-let_need : goal.decreases-let_need
decreases-let_need l = 2 * (node_count l.definition.now + node_count l.body.now) + 1

abbrev pub decreases-two_needs : goal.decreases-two_needs
decreases-two_needs l = 2 * (node_count l.left.now + node_count l.right.now) + 1
