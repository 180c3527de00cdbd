use Rattle.std.proofs.Common.{◌≡◌, ◌+◌, ◌*◌, length, map}
use Rattle.term_tree.specs.Tensors.{copies, zeros}
use Rattle.atl_meaning.specs.Values.{meant}
use Rattle.atl_meaning.proofs.build.+zeros.Given as goal

abbrev pub decreases-zeros : goal.decreases-zeros
decreases-zeros l = 2 * length l.extents.now

abbrev pub decreases-zero_rows : goal.decreases-zero_rows
decreases-zero_rows l = 2 * length l.extents.now + 1

abbrev pub invariant-zero_rows-loop : goal.invariant-zero_rows-loop
invariant-zero_rows-loop l = map meant l.rows ≡ copies l.counter (zeros l.extents)
