use Rattle.std.proofs.Common.{◌≡◌, ◌-◌}
use Rattle.linear_cert.specs.DefaultLines.{carried_on}
use Rattle.linear_cert.specs.Room.{Room}
use Rattle.linear_cert.proofs.procedure.carried_on.Given as goal

abbrev pub invariant-loop-count : goal.invariant-loop-count
invariant-loop-count l = record {
  room : Room l.facts l._count l.attempt;
  rest : carried_on (512 - l._count) l.facts l.attempt ≡ carried_on 512 l.facts l.fn.attempt;
}
