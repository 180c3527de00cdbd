use Rattle.std.proofs.Common.{◌≡◌, map}
use Rattle.term_tree.specs.Tensors.{rows_of, zeros}
use Rattle.term_tree.specs.Meaning.{columns}
use Rattle.atl_meaning.specs.Values.{meant}
use Rattle.atl_meaning.proofs.reshape.transpose.Given as goal

abbrev pub invariant-loop-j : goal.invariant-loop-j
invariant-loop-j l = map meant l.all ≡ columns l.j (zeros l.extents) (rows_of (meant l.tensor))
