use Rattle.std.proofs.Common.{◌≡◌, map, take}
use Rattle.shape_rules.proofs.facts.bounds.Given as goal

abbrev pub invariant-loop-size : goal.invariant-loop-size
invariant-loop-size l = l.bounds ≡ map (λ d. record { low = d.low; high = d.high }) (take l.size-index l.declared)
