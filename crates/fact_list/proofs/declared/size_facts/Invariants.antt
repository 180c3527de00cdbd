use Rattle.std.proofs.Common.{◌≡◌, ◌++◌, drop}
use Rattle.fact_list.specs.Facts.{size_facts}
use Rattle.fact_list.proofs.declared.size_facts.Given as goal

abbrev pub invariant-loop-i : goal.invariant-loop-i
invariant-loop-i l = l.list ++ size_facts l.i (drop l.i l.sizes) ≡ l.fn.list ++ size_facts 0 l.sizes
