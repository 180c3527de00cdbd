use Rattle.std.proofs.Common.{◌≡◌, ◌-◌}
use Rattle.term_reader.specs.Frames.{entries_of}
use Rattle.term_reader.specs.Steps.{more_brackets}
use Rattle.term_reader.proofs.terms.more_brackets.Given as goal

abbrev pub invariant-loop-turn : goal.invariant-loop-turn
invariant-loop-turn l =
    more_brackets (entries_of l.scope) l.levels l.levels l.fn.left l.fn.tokens ≡ more_brackets (entries_of l.scope) l.levels (l.levels - l.turn) l.left l.tokens
