use Rattle.std.proofs.Common.{◌≡◌, take}
use Rattle.fact_list.proofs.copying.copy_bounds.Given as goal

abbrev pub invariant-loop-bounds : goal.invariant-loop-bounds
invariant-loop-bounds l = l.copies ≡ take l.bounds-index l.sizes
