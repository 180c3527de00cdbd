use Rattle.std.proofs.Common.{◌≡◌, replicate}
use Rattle.atl_meaning.proofs.variables.with_room.Given as goal

abbrev pub invariant-loop : goal.invariant-loop
invariant-loop l = l.more.items ≡ replicate l.counter 0
