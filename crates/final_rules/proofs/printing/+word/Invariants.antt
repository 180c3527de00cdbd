use Rattle.std.proofs.Common.{◌+◌, ◌*◌}
use Rattle.term_tree.specs.Counts.{node_count}
use Rattle.final_rules.proofs.printing.+word.Given as goal

abbrev pub decreases-word : goal.decreases-word
decreases-word l = 2 * node_count l.term.now

abbrev pub decreases-words : goal.decreases-words
decreases-words l = 2 * (node_count l.left.now + node_count l.right.now) + 1

abbrev pub decreases-guarded : goal.decreases-guarded
decreases-guarded l = 2 * node_count l.part.now + 1
