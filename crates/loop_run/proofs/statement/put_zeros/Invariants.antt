use Rattle.std.proofs.Common.{◌≡◌, ◌-◌}
use Rattle.loop_run.specs.Held.{state_of}
use Rattle.loop_run.specs.Statements.{zeros_put}
use Rattle.loop_run.proofs.statement.put_zeros.Given as goal

abbrev pub invariant-loop-further : goal.invariant-loop-further
invariant-loop-further l = zeros_put l.limit l.buffer l.at l.further (l.count - l.further) (state_of l.machine) ≡ zeros_put l.limit l.buffer l.at 0 l.count
    (state_of l.initial.machine)
