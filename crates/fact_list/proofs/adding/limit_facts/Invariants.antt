use Rattle.std.proofs.Common.{◌≡◌, ◌++◌, drop}
use Rattle.fact_list.specs.Facts.{limit_facts}
use Rattle.fact_list.proofs.adding.limit_facts.Given as goal

abbrev pub invariant-loop-limit : goal.invariant-loop-limit
invariant-loop-limit l = l.facts ++ limit_facts l.atom (drop l.limit-index l.limits) ≡ l.fn.facts ++ limit_facts l.atom l.limits
