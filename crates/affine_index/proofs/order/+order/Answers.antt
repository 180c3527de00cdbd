use Rattle.std.proofs.Common.{◌≤◌, length, min, arith}
use Rattle.affine_index.proofs.OrderLaws.{order-Mul, factors-end, terms-end}
use Rattle.affine_index.proofs.order.+order.Goals as goal
use Rattle.affine_index.proofs.order.+order.Goals.{order_factors-then-loop-i-test+else-i-b, order_factors-else-loop-i-test}
use Rattle.affine_index.proofs.order.+order.Goals.{order_terms-then-loop-i-test+else-i-b, order_terms-else-loop-i-test}

pub order_atoms-returns-in-Mul-b-2 : goal.order_atoms-returns-in-Mul-b-2
order_atoms-returns-in-Mul-b-2 t c = cc (order-Mul c.in-Mul.x c.in-Mul-b-2.y)

pub order_factors-returns : goal.order_factors-returns
order_factors-returns t c =
    let ended : min (length c.args.a.now) (length c.args.b.now) ≤ c.loop-i.i = elim c.loop-i-test.branch [
      | order_factors-then-loop-i-test+else-i-b w ↦ omega arith
      | order_factors-else-loop-i-test w ↦ omega arith
    ] in
    cc (factors-end c.loop-i.i c.args.a.now c.args.b.now c.loop-i.invariant.within_a c.loop-i.invariant.within_b ended)

pub order_terms-returns : goal.order_terms-returns
order_terms-returns t c =
    let ended : min (length c.args.a.now) (length c.args.b.now) ≤ c.loop-i.i = elim c.loop-i-test.branch [
      | order_terms-then-loop-i-test+else-i-b w ↦ omega arith
      | order_terms-else-loop-i-test w ↦ omega arith
    ] in
    cc (terms-end c.loop-i.i c.args.a.now c.args.b.now c.loop-i.invariant.within_a c.loop-i.invariant.within_b ended)
