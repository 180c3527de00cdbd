use Rattle.std.proofs.Common.{◌≡◌, ◌++◌, drop}
use Rattle.fact_list.specs.Facts.{comparisons}
use Rattle.fact_list.proofs.list.comparisons.Given as goal

abbrev pub invariant-loop-fact : goal.invariant-loop-fact
invariant-loop-fact l = l.list ++ comparisons (drop l.fact-index l.facts) ≡ comparisons l.facts
