use Rattle.shape_rules.proofs.ModuleLaws.{before_more}
use Rattle.path_focus.specs.Laws.{HasWordLiterals}
use Rattle.path_focus.proofs.outputs.literals_told_of.Goals as goal

pub loop-output-preserved : goal.loop-output-preserved
loop-output-preserved c =
    before_more HasWordLiterals c.args.outputs.now c.loop-output.output-index c.output-item.result c.loop-output-test.true c.output-item.is
    c.literals_told.ensures c.loop-output.invariant
