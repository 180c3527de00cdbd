use Rattle.std.proofs.Common.{◌≡◌, take}
use Rattle.final_rules.proofs.spot.copy_all.Given as goal

abbrev pub invariant-loop-around : goal.invariant-loop-around
invariant-loop-around l = l.copies ≡ take l.around-index l.all
