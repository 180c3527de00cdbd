use Rattle.std.proofs.Common.{◌≡◌, map, length}
use Rattle.schedule_run.specs.Names.{among}
use Rattle.schedule_run.proofs.names.among.Given as goal

abbrev pub invariant-loop-table : goal.invariant-loop-table
invariant-loop-table l = among (map (λ e. (e.0.now, e.1)) l.table) l.name ≡ among (map (λ e. (e.0.now, e.1)) l.initial.table) l.name

abbrev pub decreases-loop-table : goal.decreases-loop-table
decreases-loop-table l = length l.table
