use Rattle.std.proofs.Common.{◌+◌, ◌*◌}
use Rattle.term_tree.specs.Counts.{node_count}
use Rattle.final_rules.proofs.form.+outside.Given as goal

abbrev pub decreases-outside : goal.decreases-outside
decreases-outside l = 2 * node_count l.term.now

abbrev pub decreases-second : goal.decreases-second
decreases-second l = 2 * node_count l.b.now + 1
