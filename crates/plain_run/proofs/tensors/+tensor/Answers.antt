use Rattle.std.proofs.Common.{◌≡◌, ◌∙◌, ◌+◌, ◌-◌, ◌++◌, List, ℕ, ap, map, take}
use Rattle.term_tree.specs.Shaped.{word_count}
use Rattle.word_tensors.specs.WordTensors.{rows_of_words, tensor_of}
use Rattle.atl_meaning.specs.Values.{meant}
use Rattle.plain_run.proofs.TensorLists.{one-row}
use Rattle.plain_run.proofs.tensors.+tensor.Goals as goal

pub rows-loop-preserved : goal.rows-loop-preserved
rows-loop-preserved t c =
    let ds : List ℕ = c.args.extents.now in
    let left : List ℕ = c.loop.left.now in
    let i = c.loop.counter in
    let row : meant c.in_ok-tensor.field-0 ≡ tensor_of ds (take (word_count ds) left) = c.in_ok-tensor.ensures ∙ ap (tensor_of ds) c.cut.ensures.first in
    (λ j. map meant (c.in_ok-push.ensures.ok j) ++ rows_of_words (tensor_of ds) (word_count ds) (c.args.count - (i + 1)) (c.cut.ensures.others j))
    ∙ one-row (tensor_of ds) (word_count ds) c.args.count i c.loop.rows c.in_ok-tensor.field-0 left c.loop-test.true row ∙ c.loop.invariant
