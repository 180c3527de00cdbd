use Rattle.std.proofs.Common.{◌≡◌, ◌-◌, ◌++◌, map}
use Rattle.term_tree.specs.Tensors.{rows_of, zeros}
use Rattle.term_tree.specs.Meaning.{chunks}
use Rattle.atl_meaning.specs.Values.{meant}
use Rattle.atl_meaning.proofs.reshape.split.Given as goal

abbrev pub invariant-loop : goal.invariant-loop
invariant-loop l = map meant l.all
    ++ chunks (l.count - l.counter) l.k (zeros l.extents) (map meant l.rest) ≡ chunks l.count l.k (zeros l.extents) (rows_of (meant l.tensor))
