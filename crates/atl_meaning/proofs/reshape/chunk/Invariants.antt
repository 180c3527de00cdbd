use Rattle.std.proofs.Common.{◌≡◌, get_or, map}
use Rattle.term_tree.specs.Tensors.{tabulate, zeros}
use Rattle.atl_meaning.specs.Values.{meant}
use Rattle.atl_meaning.proofs.reshape.chunk.Given as goal

abbrev pub invariant-loop-at : goal.invariant-loop-at
invariant-loop-at l = map meant l.all ≡ tabulate l.at (λ i. get_or (map meant l.rows) i (zeros l.extents))
