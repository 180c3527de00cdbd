use Rattle.shape_rules.specs.Faults.{AllBefore}
use Rattle.path_focus.specs.Laws.{HasOrdered}
use Rattle.schedule_run.proofs.stepping.told_outputs.Given as goal

abbrev pub invariant-loop-output : goal.invariant-loop-output
invariant-loop-output l = AllBefore HasOrdered l.output-index l.outputs
