use Rattle.affine_index.specs.Normal.{is_normal, is_ordered}
use Rattle.affine_index.proofs.ArithmeticLaws.{normal-ordered}
use Rattle.shape_rules.proofs.ModuleLaws.{before_more}
use Rattle.term_tree.proofs.FormLaws.{every_form-weaker}
use Rattle.path_focus.specs.Laws.{HasOrdered}
use Rattle.schedule_run.proofs.stepping.told_outputs.Goals as goal

pub loop-output-preserved : goal.loop-output-preserved
loop-output-preserved c =
    before_more HasOrdered c.args.outputs.now c.loop-output.output-index c.output-item.result c.loop-output-test.true c.output-item.is
    (every_form-weaker is_normal is_ordered normal-ordered c.output-item.result.term c.told.ensures) c.loop-output.invariant
