use Rattle.std.proofs.Common.{◌≡◌, ◌++◌, drop}
use Rattle.fact_list.specs.Facts.{all_factor_facts}
use Rattle.fact_list.specs.Atoms.{different}
use Rattle.fact_list.proofs.adding.all_factor_facts.Given as goal

abbrev pub invariant-loop-i : goal.invariant-loop-i
invariant-loop-i l = l.list ++ all_factor_facts l.facts l.factors (different (drop l.i l.factors)) ≡ l.fn.list
    ++ all_factor_facts l.facts l.factors (different l.factors)
