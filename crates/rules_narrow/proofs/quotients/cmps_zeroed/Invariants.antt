use Rattle.std.proofs.Common.{◌≡◌, drop}
use Rattle.rules_narrow.specs.Quotients.{cmps_zeroed}
use Rattle.rules_narrow.proofs.CmpLaws.{behind_all}
use Rattle.rules_narrow.proofs.quotients.cmps_zeroed.Given as goal

abbrev pub invariant-loop-cmp : goal.invariant-loop-cmp
invariant-loop-cmp l = behind_all l.all (cmps_zeroed l.atom (drop l.cmp-index l.cmps)) ≡ cmps_zeroed l.atom l.cmps
