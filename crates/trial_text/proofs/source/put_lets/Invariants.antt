use Rattle.std.proofs.Common.{◌≡◌, ◌++◌}
use Rattle.trial_text.specs.TrialText.{lets_text}
use Rattle.trial_text.proofs.source.put_lets.Given as goal

abbrev pub invariant-loop-number : goal.invariant-loop-number
invariant-loop-number l = l.text.items ≡ l.fn.text.items ++ lets_text l.number
