use Rattle.std.proofs.Common.{◌≡◌, map, take}
use Rattle.term_tree.specs.Tensors.{joined}
use Rattle.atl_meaning.specs.Values.{meant}
use Rattle.atl_meaning.proofs.reshape.flatten.Given as goal

abbrev pub invariant-loop-row : goal.invariant-loop-row
invariant-loop-row l = map meant l.rows ≡ joined (map meant (take l.row-index l.row-items))
