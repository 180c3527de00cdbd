use Rattle.std.proofs.Common.{◌≡◌, map, take}
use Rattle.term_tree.specs.Shaped.{flat}
use Rattle.atl_meaning.specs.Values.{meant}
use Rattle.plain_run.proofs.flat.words_of.Given as goal

abbrev pub invariant-loop-tensor : goal.invariant-loop-tensor
invariant-loop-tensor l = l.lists ≡ map flat (map meant (take l.tensor-index l.tensors))
