use Rattle.std.proofs.Common.{◌+◌, ◌*◌}
use Rattle.c_print.proofs.Sizes.{word_nodes}
use Rattle.c_print.proofs.writer.Writer.+word.Given as goal

abbrev pub decreases-put_word_operand : goal.decreases-put_word_operand
decreases-put_word_operand l = 3 * word_nodes l.word.now

abbrev pub decreases-put_word_pair : goal.decreases-put_word_pair
decreases-put_word_pair l = 3 * (word_nodes l.left.now + word_nodes l.right.now) + 2

abbrev pub decreases-put_sides : goal.decreases-put_sides
decreases-put_sides l = 3 * (word_nodes l.first.now + word_nodes l.second.now) + 1

abbrev pub decreases-put_choice : goal.decreases-put_choice
decreases-put_choice l = 3 * (word_nodes l.first.now + word_nodes l.second.now) + 2
