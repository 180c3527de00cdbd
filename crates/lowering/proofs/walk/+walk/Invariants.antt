use Rattle.std.proofs.Common.{◌+◌, ◌*◌}
use Rattle.term_tree.specs.Counts.{node_count}
use Rattle.lowering.proofs.walk.+walk.Given as goal

abbrev pub decreases-term_loops : goal.decreases-term_loops
decreases-term_loops l = 4 * node_count l.term.now

abbrev pub decreases-two_loops : goal.decreases-two_loops
decreases-two_loops l = 4 * (node_count l.a.now + node_count l.b.now) + 1

abbrev pub decreases-adding_loops : goal.decreases-adding_loops
decreases-adding_loops l = 4 * (node_count l.a.now + node_count l.b.now) + 2

abbrev pub decreases-concat_loops : goal.decreases-concat_loops
decreases-concat_loops l = 4 * (node_count l.a.now + node_count l.b.now) + 2

abbrev pub decreases-let_loops : goal.decreases-let_loops
decreases-let_loops l = 4 * (node_count l.a.now + node_count l.b.now) + 3

abbrev pub decreases-inside_let : goal.decreases-inside_let
decreases-inside_let l = 4 * node_count l.b.now + 2

abbrev pub decreases-enclosed_loops : goal.decreases-enclosed_loops
decreases-enclosed_loops l = 4 * node_count l.part.now + 1

abbrev pub decreases-part_loops : goal.decreases-part_loops
decreases-part_loops l = 4 * node_count l.part.now + 1

abbrev pub decreases-defined_loops : goal.decreases-defined_loops
decreases-defined_loops l = 4 * node_count l.a.now + 1

abbrev pub decreases-body_loops : goal.decreases-body_loops
decreases-body_loops l = 4 * node_count l.b.now + 1
