use Rattle.std.proofs.Common.{◌≡◌}
use Rattle.c_reader.specs.Units.{group_tokens, many}
use Rattle.c_reader.proofs.parameters.many.Given as goal

abbrev pub invariant-loop-number : goal.invariant-loop-number
invariant-loop-number l =
    many (group_tokens l.group) l.fn.first 0 l.count l.fn.words ≡ many (group_tokens l.group) l.first l.number l.count l.words
