use Rattle.word_tensors.proofs.TensorLaws.{is-of-words}
use Rattle.word_tensors.proofs.laws.words_make_a_tensor.Goals as goal

pub returns : goal.returns
returns c = is-of-words c.args.extents.now c.args.words.now
