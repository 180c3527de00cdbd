use Rattle.std.proofs.Common.{◌≡◌, ◌≤◌, ℕ, length}
use Rattle.c_words.specs.Words.{words_from}
use Rattle.c_words.proofs.skip.find.Given as goal

abbrev pub invariant-loop-state : goal.invariant-loop-state
invariant-loop-state l = record {
  words : (end : ℕ) → words_from end 0 l.state l.rest ≡ words_from end 0 l.fn.state l.fn.text;
  shorter : length l.rest ≤ length l.fn.text;
}

abbrev pub decreases-loop-state : goal.decreases-loop-state
decreases-loop-state l = length l.rest
