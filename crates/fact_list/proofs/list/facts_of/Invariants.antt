use Rattle.std.proofs.Common.{◌≡◌, ◌-◌, ◌≤◌, ◌++◌, drop, take, length}
use Rattle.fact_list.specs.Facts.{facts_of, followed}
use Rattle.fact_list.proofs.list.facts_of.Given as goal

abbrev pub invariant-loop-i : goal.invariant-loop-i
invariant-loop-i l = record {
  within : l.i ≤ length l.list;
  most : l.i ≤ 2000;
  rest : take l.i l.list ++ followed (2000 - l.i) l.facts l.atoms (drop l.i l.list) ≡ facts_of l.facts l.goal;
}

abbrev pub decreases-loop-i : goal.decreases-loop-i
decreases-loop-i l = 2000 - l.i
