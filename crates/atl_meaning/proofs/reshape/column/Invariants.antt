use Rattle.std.proofs.Common.{◌≡◌, get_or, map, take}
use Rattle.term_tree.specs.Tensors.{rows_of, zeros}
use Rattle.atl_meaning.specs.Values.{meant}
use Rattle.atl_meaning.proofs.reshape.column.Given as goal

abbrev pub invariant-loop-row : goal.invariant-loop-row
invariant-loop-row l = map meant l.all ≡ map (λ row. get_or (rows_of row) l.j (zeros l.extents)) (map meant (take l.row-index l.rows))
