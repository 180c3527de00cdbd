use Rattle.std.proofs.Common.{◌+◌, ◌%◌, ◌^◌, ◌∙◌, List, ℕ, ap}
use Rattle.trial_run.specs.TrialRun.{word_sum}
use Rattle.trial_run.proofs.SumLaws.{output-more}
use Rattle.trial_run.proofs.sums.total.Goals as goal

pub loop-at-preserved : goal.loop-at-preserved
loop-at-preserved c =
    output-more c.args.buffers.now.memory.outputs c.loop-at.at c.loop-at.total c.with_words-total.result c.loop-at.invariant
    (c.with_words-total.ensures ∙ ap (λ (ws : List ℕ). (c.loop-at.total + word_sum ws) % 2 ^ 64) c.words.ensures)
