use Rattle.std.proofs.Common.{◌≡◌, length}
use Rattle.c_reader.specs.Units.{more_sizes}
use Rattle.c_reader.proofs.sizes.more_sizes.Given as goal

abbrev pub invariant-loop-words : goal.invariant-loop-words
invariant-loop-words l = more_sizes l.fn.sizes l.fn.words ≡ more_sizes l.sizes l.words

abbrev pub decreases-loop-words : goal.decreases-loop-words
decreases-loop-words l = length l.words.words
