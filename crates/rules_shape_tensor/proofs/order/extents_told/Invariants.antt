use Rattle.std.proofs.Common.{◌≡◌, drop}
use Rattle.rules_shape_tensor.specs.Tensors.{each_ordered}
use Rattle.rules_shape_tensor.proofs.order.extents_told.Given as goal

abbrev pub invariant-loop-extent : goal.invariant-loop-extent
invariant-loop-extent l = each_ordered (drop l.extent-index l.extents) ≡ each_ordered l.extents
