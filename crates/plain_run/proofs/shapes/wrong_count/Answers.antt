use Rattle.std.proofs.Common.{◌∙◌, arith, sym}
use Rattle.plain_run.proofs.ShapeLaws.{wrong-end}
use Rattle.plain_run.proofs.shapes.wrong_count.Goals as goal

pub returns : goal.returns
returns c = sym (wrong-end c.loop-at.at c.loop-at.at c.args.shapes.now c.args.inputs.now (omega arith)) ∙ c.loop-at.invariant
