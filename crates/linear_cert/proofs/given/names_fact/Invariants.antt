use Rattle.std.proofs.Common.{◌≡◌, drop}
use Rattle.linear_cert.specs.Shown.{names_fact}
use Rattle.linear_cert.proofs.given.names_fact.Given as goal

abbrev pub invariant-loop-line : goal.invariant-loop-line
invariant-loop-line l = names_fact l.number (drop l.line-index l.lines) ≡ names_fact l.number l.lines
