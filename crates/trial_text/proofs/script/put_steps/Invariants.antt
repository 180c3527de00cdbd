use Rattle.std.proofs.Common.{◌≡◌, ◌++◌}
use Rattle.trial_text.specs.TrialText.{steps_text}
use Rattle.trial_text.proofs.script.put_steps.Given as goal

abbrev pub invariant-loop-number : goal.invariant-loop-number
invariant-loop-number l = l.text.items ≡ l.fn.text.items ++ steps_text l.number
