use Rattle.std.proofs.Common.{◌≡◌, ◌<◌, ◌+◌, ◌^◌, ◌++◌, length}
use Rattle.affine_index.specs.Sum.{merged}
use Rattle.affine_index.specs.Wide.{terms_norm}
use Rattle.affine_index.proofs.merge.merge.Given as goal

abbrev pub invariant-loop-order : goal.invariant-loop-order
invariant-loop-order l = record {
  room : terms_norm l.a + terms_norm l.b < 2 ^ 127;
  rest : l.items ++ merged l.a l.b ≡ merged l.fn.a l.fn.b;
}

abbrev pub decreases-loop-order : goal.decreases-loop-order
decreases-loop-order l = length l.a + length l.b
