use Rattle.std.proofs.Common.{◌≡◌, drop}
use Rattle.linear_cert.specs.DefaultLines.{attempts_from, default_lines_of, first_lines}
use Rattle.linear_cert.proofs.procedure.default_lines_of.Given as goal

abbrev pub invariant-loop-at : goal.invariant-loop-at
invariant-loop-at l = first_lines l.facts (attempts_from l.facts l.goal l.at (drop l.at l.facts)) ≡ default_lines_of l.facts l.goal
