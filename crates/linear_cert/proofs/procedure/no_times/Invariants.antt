use Rattle.std.proofs.Common.{◌≡◌, ◌++◌, drop}
use Rattle.linear_cert.specs.DefaultLines.{no_times}
use Rattle.linear_cert.proofs.procedure.no_times.Given as goal

abbrev pub invariant-loop-i : goal.invariant-loop-i
invariant-loop-i l = l.times ++ no_times (drop l._i l.facts) ≡ no_times l.facts
