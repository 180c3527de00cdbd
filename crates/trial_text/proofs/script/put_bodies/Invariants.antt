use Rattle.std.proofs.Common.{◌≡◌, ◌++◌}
use Rattle.trial_text.specs.TrialText.{bodies_text}
use Rattle.trial_text.proofs.script.put_bodies.Given as goal

abbrev pub invariant-loop-body : goal.invariant-loop-body
invariant-loop-body l = l.text.items ≡ l.fn.text.items ++ bodies_text l.body
