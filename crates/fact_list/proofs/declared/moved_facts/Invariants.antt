use Rattle.std.proofs.Common.{◌≡◌, ◌++◌, drop, true}
use Rattle.fact_list.specs.Facts.{cmps_fit, moved_facts}
use Rattle.fact_list.proofs.declared.moved_facts.Given as goal

abbrev pub invariant-loop-cmp : goal.invariant-loop-cmp
invariant-loop-cmp l = record {
  fit : cmps_fit l.by (drop l.cmp-index l.cmps) ≡ true;
  rest : l.list ++ moved_facts l.by (drop l.cmp-index l.cmps) ≡ l.fn.list ++ moved_facts l.by l.cmps;
}
