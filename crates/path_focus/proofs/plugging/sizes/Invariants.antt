use Rattle.std.proofs.Common.{◌≡◌, take}
use Rattle.path_focus.proofs.plugging.sizes.Given as goal

abbrev pub invariant-loop-size : goal.invariant-loop-size
invariant-loop-size l = l.copies ≡ take l.size-index l.declared
