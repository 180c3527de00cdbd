use Rattle.trial_run.proofs.SumLaws.{nodes-more}
use Rattle.trial_run.proofs.sums.nodes_of.Goals as goal

pub loop-output-preserved : goal.loop-output-preserved
loop-output-preserved c =
    nodes-more c.args.outputs.now c.requires.small c.requires.few c.loop-output.output-index c.output-item.result c.loop-output.total c.nodes.result
    c.saturating_add-total.result c.loop-output-test.true c.output-item.is c.loop-output.invariant c.nodes.ensures c.saturating_add-total.ensures
