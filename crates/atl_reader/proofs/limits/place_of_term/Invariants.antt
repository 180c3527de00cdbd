use Rattle.std.proofs.Common.{◌≡◌, length}
use Rattle.atl_reader.specs.Source.{term_place}
use Rattle.atl_reader.proofs.limits.place_of_term.Given as goal

abbrev pub invariant-loop-tokens : goal.invariant-loop-tokens
invariant-loop-tokens l = term_place l.left l.tokens ≡ term_place l.initial.left l.initial.tokens

abbrev pub decreases-loop-tokens : goal.decreases-loop-tokens
decreases-loop-tokens l = length l.tokens.words
