use Rattle.std.proofs.Common.{◌+◌, ◌*◌}
use Rattle.term_tree.specs.Counts.{node_count}
use Rattle.final_judge.proofs.reads.+word.Given as goal

abbrev pub decreases-word_goals : goal.decreases-word_goals
decreases-word_goals l = 2 * node_count l.term.now

abbrev pub decreases-words : goal.decreases-words
decreases-words l = 2 * (node_count l.left.now + node_count l.right.now) + 1

abbrev pub decreases-chosen : goal.decreases-chosen
decreases-chosen l = 2 * node_count l.part.now + 1
