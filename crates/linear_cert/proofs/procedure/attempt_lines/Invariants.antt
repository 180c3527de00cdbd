use Rattle.std.proofs.Common.{◌≡◌, ◌+◌, ◌++◌, drop}
use Rattle.linear_cert.specs.DefaultLines.{attempt_lines, lines_from}
use Rattle.linear_cert.proofs.procedure.attempt_lines.Given as goal

abbrev pub invariant-loop-i : goal.invariant-loop-i
invariant-loop-i l = l.lines ++ lines_from (l.i + 1) (drop l.i l.attempt.times) ≡ attempt_lines l.attempt
