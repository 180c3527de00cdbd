use Rattle.std.proofs.Common.{sym, subst}
use Rattle.linear_cert.proofs.ProcedureLaws.{first-room}
use Rattle.linear_cert.specs.Room.{Room}
use Rattle.linear_cert.proofs.procedure.first_attempt.Goals as goal

pub returns-clause-room : goal.returns-clause-room
returns-clause-room c =
    subst (Room c.args.facts.now 0)
    (λ k. record { left = sym c.in_ok-copied.ensures.same k; goal_times = 1; times = sym (c.in_ok-no_times.ensures {u = tt}) k })
    (first-room c.args.facts.now c.args.goal.now c.in_ok-copied.ensures.normal)
