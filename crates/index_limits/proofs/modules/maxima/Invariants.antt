use Rattle.std.proofs.Common.{◌≡◌, map, take}
use Rattle.final_rules.specs.Printed.{at_least_one}
use Rattle.index_limits.proofs.modules.maxima.Given as goal

abbrev pub invariant-loop-size : goal.invariant-loop-size
invariant-loop-size l = l.all ≡ map (λ d. at_least_one d.high) (take l.size-index l.sizes)
