use Rattle.std.proofs.Common.{◌≡◌, ◌++◌, ◌+◌, ◌-◌, ◌*◌, length, map}
use Rattle.term_tree.specs.Shaped.{word_count}
use Rattle.word_tensors.specs.WordTensors.{rows_of_words, tensor_of}
use Rattle.atl_meaning.specs.Values.{meant}
use Rattle.plain_run.proofs.tensors.+tensor.Given as goal

abbrev pub decreases-tensor : goal.decreases-tensor
decreases-tensor l = 2 * length l.extents.now

abbrev pub decreases-rows : goal.decreases-rows
decreases-rows l = 2 * length l.extents.now + 1

abbrev pub invariant-rows-loop : goal.invariant-rows-loop
invariant-rows-loop l =
    map meant l.rows ++ rows_of_words (tensor_of l.extents) (word_count l.extents) (l.count - l.counter) l.left
    ≡ rows_of_words (tensor_of l.extents) (word_count l.extents) l.count l.words
