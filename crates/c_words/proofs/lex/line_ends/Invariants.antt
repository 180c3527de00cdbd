use Rattle.std.proofs.Common.{◌≡◌, true, length}
use Rattle.c_words.specs.Words.{line_ends}
use Rattle.c_words.proofs.lex.line_ends.Given as goal

abbrev pub invariant-loop-rest : goal.invariant-loop-rest
invariant-loop-rest l = line_ends l.may_return l.rest ≡ line_ends true l.fn.text

abbrev pub decreases-loop-rest : goal.decreases-loop-rest
decreases-loop-rest l = length l.rest
