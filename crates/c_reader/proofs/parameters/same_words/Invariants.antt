use Rattle.std.proofs.Common.{◌≡◌, length}
use Rattle.text_tokens.specs.Spelled.{tokens_of}
use Rattle.c_read.specs.Parts.{expect_all}
use Rattle.c_reader.proofs.parameters.same_words.Given as goal

abbrev pub invariant-loop-model : goal.invariant-loop-model
invariant-loop-model l = expect_all (tokens_of l.fn.model.words) l.fn.words ≡ expect_all (tokens_of l.model.words) l.words

abbrev pub decreases-loop-model : goal.decreases-loop-model
decreases-loop-model l = length l.model.words
