use Rattle.std.proofs.Common.{◌≡◌, ◌*◌, ◌-◌, ◌^◌, ◌≤◌, drop, min}
use Rattle.plain_run.specs.Shapes.{product_of}
use Rattle.plain_run.proofs.shapes.product.Given as goal

abbrev pub invariant-loop-number : goal.invariant-loop-number
invariant-loop-number l = record {
  most : l.product ≤ 2 ^ 64 - 1;
  product : min (l.product * product_of l.least (drop l.number-index l.numbers)) (2 ^ 64 - 1) ≡ min (product_of l.least l.numbers) (2 ^ 64 - 1);
}
