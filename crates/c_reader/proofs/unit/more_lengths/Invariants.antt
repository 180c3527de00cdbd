use Rattle.std.proofs.Common.{◌≡◌, length}
use Rattle.c_reader.specs.Units.{heads_of, more_lengths}
use Rattle.c_reader.proofs.unit.more_lengths.Given as goal

abbrev pub invariant-loop-words : goal.invariant-loop-words
invariant-loop-words l = more_lengths (heads_of l.fn.heads) l.fn.words ≡ more_lengths (heads_of l.heads) l.words

abbrev pub decreases-loop-words : goal.decreases-loop-words
decreases-loop-words l = length l.words.words
