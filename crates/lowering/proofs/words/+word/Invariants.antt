use Rattle.std.proofs.Common.{◌+◌, ◌*◌}
use Rattle.term_tree.specs.Counts.{node_count}
use Rattle.lowering.proofs.words.+word.Given as goal

abbrev pub decreases-word : goal.decreases-word
decreases-word l = 2 * node_count l.term.now

abbrev pub decreases-two_words : goal.decreases-two_words
decreases-two_words l = 2 * (node_count l.left.now + node_count l.right.now) + 1

abbrev pub decreases-chosen : goal.decreases-chosen
decreases-chosen l = 2 * node_count l.part.now + 1
