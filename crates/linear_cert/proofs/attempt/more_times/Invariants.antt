use Rattle.std.proofs.Common.{◌≡◌, take}
use Rattle.std.specs.Prelude.{pos}
use Rattle.linear_cert.specs.DefaultLines.{add_at, all_times}
use Rattle.linear_cert.proofs.attempt.more_times.Given as goal

abbrev pub invariant-loop-i : goal.invariant-loop-i
invariant-loop-i l = l.more ≡ take l.i (add_at (all_times l.by l.times) l.at (pos l.amount))
