use Rattle.std.proofs.Common.{◌≡◌, length}
use Rattle.c_words.specs.Words.{has_end}
use Rattle.c_words.proofs.skip.has_end.Given as goal

abbrev pub invariant-loop-rest : goal.invariant-loop-rest
invariant-loop-rest l = has_end l.rest ≡ has_end l.fn.text

abbrev pub decreases-loop-rest : goal.decreases-loop-rest
decreases-loop-rest l = length l.rest
