use Rattle.shape_rules.proofs.ModuleLaws.{before_more}
use Rattle.printable_versions.specs.Versions.{IsTold}
use Rattle.printable_versions.proofs.told.outputs_told.Goals as goal

pub loop-output-preserved : goal.loop-output-preserved
loop-output-preserved c =
    before_more IsTold c.args.outputs.now c.loop-output.output-index c.output-item.result c.loop-output-test.true c.output-item.is c.output_told.ensures
    c.loop-output.invariant
