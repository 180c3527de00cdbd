use Rattle.std.proofs.Common.{◌≡◌, take}
use Rattle.atl_meaning.specs.Forms.{shapes_of}
use Rattle.atl_meaning.proofs.outputs.input_shapes.Given as goal

abbrev pub invariant-loop-input : goal.invariant-loop-input
invariant-loop-input l = l.shapes.items ≡ shapes_of (take l.input-index l.inputs)
