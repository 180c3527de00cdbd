use Rattle.linear_cert.specs.Roles.{Mapped}
use Rattle.linear_cert.proofs.roles.mapped.Given as goal

abbrev pub invariant-loop-at : goal.invariant-loop-at
invariant-loop-at l = Mapped l.facts l.at l.places.items
