use Rattle.std.proofs.Common.{◌≡◌, List, subst, true}
use Rattle.rules_shape_tensor.specs.Tensors.{all_ordered}
use Rattle.rules_shape_tensor.proofs.ShapeOrders.{all_ordered_both}
use Rattle.rules_shape_tensor.proofs.order.shapes_told.Goals as goal
use Rattle.term_tree.specs.Shape.{Extents}

pub returns : goal.returns
returns c =
    all_ordered_both c.args.shapes.now.lets c.args.shapes.now.inputs
    (subst (λ (ts : List Extents). all_ordered ts ≡ true) c.as_slice.ensures c.each_told.ensures)
    (subst (λ (ts : List Extents). all_ordered ts ≡ true) c.as_slice-2.ensures c.each_told-2.ensures)
