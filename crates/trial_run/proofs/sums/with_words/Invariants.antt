use Rattle.std.proofs.Common.{◌≡◌, ◌+◌, ◌%◌, ◌^◌, take}
use Rattle.trial_run.specs.TrialRun.{word_sum}
use Rattle.trial_run.proofs.sums.with_words.Given as goal

abbrev pub invariant-loop-word : goal.invariant-loop-word
invariant-loop-word l = l.total ≡ (l.fn.sum + word_sum (take l.word-index l.words)) % 2 ^ 64
