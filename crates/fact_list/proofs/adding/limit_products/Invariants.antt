use Rattle.std.proofs.Common.{◌≡◌, ◌++◌, drop}
use Rattle.fact_list.specs.Facts.{limit_products}
use Rattle.fact_list.proofs.adding.limit_products.Given as goal

abbrev pub invariant-loop-limit : goal.invariant-loop-limit
invariant-loop-limit l =
    l.facts ++ limit_products l.whole l.factor l.others (drop l.limit-index l.limits) ≡ l.fn.facts ++ limit_products l.whole l.factor l.others l.limits
