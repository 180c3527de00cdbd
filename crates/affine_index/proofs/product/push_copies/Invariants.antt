use Rattle.std.proofs.Common.{◌≡◌, ◌++◌, take}
use Rattle.affine_index.proofs.product.push_copies.Given as goal

abbrev pub invariant-loop-atom : goal.invariant-loop-atom
invariant-loop-atom l = l.atoms ≡ l.initial.atoms ++ take l.atom-index l.more
