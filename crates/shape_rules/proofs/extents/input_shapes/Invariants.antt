use Rattle.std.proofs.Common.{◌≡◌, map, take}
use Rattle.shape_rules.proofs.extents.input_shapes.Given as goal

abbrev pub invariant-loop-input : goal.invariant-loop-input
invariant-loop-input l = l.shapes ≡ map (λ d. d.extents) (take l.input-index l.inputs)
