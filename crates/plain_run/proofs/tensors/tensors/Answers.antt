use Rattle.std.proofs.Common.{◌∙◌, arith, sym}
use Rattle.plain_run.proofs.TensorLists.{last-tensor}
use Rattle.plain_run.proofs.tensors.tensors.Goals as goal

pub returns : goal.returns
returns c = sym (last-tensor c.args.shapes.now c.args.inputs.now c.loop-at.at c.loop-at.found (omega arith)) ∙ c.loop-at.invariant
