use Rattle.std.proofs.Common.{◌≡◌, ◌≤◌, ◌+◌, ◌-◌, ◌++◌, length, drop}
use Rattle.affine_index.specs.Product.{merged_factors}
use Rattle.affine_index.proofs.product.merged_factors.Given as goal

abbrev pub invariant-loop-i : goal.invariant-loop-i
invariant-loop-i l = record {
  within_a : l.i ≤ length l.a;
  within_b : l.j ≤ length l.b;
  rest : l.factors ++ merged_factors (drop l.i l.a) (drop l.j l.b) ≡ merged_factors l.a l.b;
}

abbrev pub decreases-loop-i : goal.decreases-loop-i
decreases-loop-i l = (length l.a - l.i) + (length l.b - l.j)
