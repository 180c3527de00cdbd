use Rattle.std.proofs.Common.{◌≡◌}
use Rattle.trial_text.specs.TrialText.{stepped_on, words_from}
use Rattle.trial_text.proofs.given.words.Given as goal

abbrev pub invariant-loop-at : goal.invariant-loop-at
invariant-loop-at l = (l.words.items ≡ words_from l.fn.state l.at) × (l.state ≡ stepped_on l.fn.state l.at)
