use Rattle.std.proofs.Common.{◌≡◌, [], length}
use Rattle.given_text.specs.Reading.{numbers}
use Rattle.given_text.proofs.words.numbers.Given as goal

abbrev pub invariant-loop-tokens : goal.invariant-loop-tokens
invariant-loop-tokens l = numbers [] l.fn.tokens ≡ numbers l.found l.tokens

abbrev pub decreases-loop-tokens : goal.decreases-loop-tokens
decreases-loop-tokens l = length l.tokens.words
