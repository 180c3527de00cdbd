use Rattle.std.proofs.Common.{◌+◌, ◌*◌}
use Rattle.facts_text.proofs.Sizes.{index_nodes}
use Rattle.facts_text.proofs.writer.Writer.+index.Given as goal

abbrev pub decreases-put_operand : goal.decreases-put_operand
decreases-put_operand l = 2 * index_nodes l.index.now

abbrev pub decreases-put_over : goal.decreases-put_over
decreases-put_over l = 2 * index_nodes l.left.now + 1

abbrev pub decreases-put_pair : goal.decreases-put_pair
decreases-put_pair l = 2 * (index_nodes l.left.now + index_nodes l.right.now) + 1
