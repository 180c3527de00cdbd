use Rattle.std.proofs.Common.{◌≡◌, drop}
use Rattle.linear_cert.specs.DefaultLines.{multipliers_fit}
use Rattle.linear_cert.proofs.attempt.multipliers_fit.Given as goal

abbrev pub invariant-loop-i : goal.invariant-loop-i
invariant-loop-i l = multipliers_fit (drop l.i l.times) ≡ multipliers_fit l.times
