use Rattle.std.proofs.Common.{◌≡◌, ◌++◌, drop}
use Rattle.fact_list.specs.Facts.{stated_facts}
use Rattle.fact_list.proofs.declared.stated_facts.Given as goal

abbrev pub invariant-loop-cmp : goal.invariant-loop-cmp
invariant-loop-cmp l = l.list ++ stated_facts (drop l.cmp-index l.cmps) ≡ l.fn.list ++ stated_facts l.cmps
