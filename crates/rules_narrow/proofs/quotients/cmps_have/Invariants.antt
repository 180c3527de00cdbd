use Rattle.std.proofs.Common.{◌≡◌, drop}
use Rattle.rules_narrow.specs.Quotients.{cmps_have}
use Rattle.rules_narrow.proofs.quotients.cmps_have.Given as goal

abbrev pub invariant-loop-cmp : goal.invariant-loop-cmp
invariant-loop-cmp l = cmps_have l.atom (drop l.cmp-index l.cmps) ≡ cmps_have l.atom l.cmps
