use Rattle.trial_run.proofs.SumLaws.{word-more}
use Rattle.trial_run.proofs.sums.with_words.Goals as goal

pub loop-word-preserved : goal.loop-word-preserved
loop-word-preserved c = word-more c.args.sum c.args.words.now c.loop-word.word-index 0 c.loop-word.total c.loop-word-test.true c.loop-word.invariant
