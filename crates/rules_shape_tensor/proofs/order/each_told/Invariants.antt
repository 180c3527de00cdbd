use Rattle.std.proofs.Common.{◌≡◌, drop}
use Rattle.rules_shape_tensor.specs.Tensors.{all_ordered}
use Rattle.rules_shape_tensor.proofs.order.each_told.Given as goal

abbrev pub invariant-loop-extents : goal.invariant-loop-extents
invariant-loop-extents l = all_ordered (drop l.extents-index l.shapes) ≡ all_ordered l.shapes
