use Rattle.affine_index.proofs.TotalOrder.{atom_order-total}
use Rattle.affine_index.proofs.laws.order_is_total.Goals as goal

pub returns : goal.returns
returns c = atom_order-total
