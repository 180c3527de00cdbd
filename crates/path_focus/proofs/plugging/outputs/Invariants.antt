use Rattle.std.proofs.Common.{◌≡◌, take}
use Rattle.path_focus.proofs.plugging.outputs.Given as goal

abbrev pub invariant-loop-item : goal.invariant-loop-item
invariant-loop-item l = l.copies ≡ take l.item-index l.declared
