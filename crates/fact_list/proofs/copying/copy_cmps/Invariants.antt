use Rattle.std.proofs.Common.{◌≡◌, take}
use Rattle.fact_list.proofs.copying.copy_cmps.Given as goal

abbrev pub invariant-loop-cmp : goal.invariant-loop-cmp
invariant-loop-cmp l = l.copies ≡ take l.cmp-index l.cmps
