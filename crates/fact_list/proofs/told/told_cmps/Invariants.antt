use Rattle.std.proofs.Common.{drop}
use Rattle.fact_list.specs.Normal.{CmpsNormal}
use Rattle.fact_list.proofs.told.told_cmps.Given as goal

abbrev pub invariant-loop-cmp : goal.invariant-loop-cmp
invariant-loop-cmp l = CmpsNormal (drop l.cmp-index l.cmps) → CmpsNormal l.cmps
