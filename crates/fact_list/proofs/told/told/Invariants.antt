use Rattle.std.proofs.Common.{drop}
use Rattle.fact_list.specs.Normal.{AllNormal}
use Rattle.fact_list.proofs.told.told.Given as goal

abbrev pub invariant-loop-fact : goal.invariant-loop-fact
invariant-loop-fact l = AllNormal (drop l.fact-index l.facts) → AllNormal l.facts
