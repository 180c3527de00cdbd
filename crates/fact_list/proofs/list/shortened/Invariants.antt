use Rattle.std.proofs.Common.{◌≡◌, take, length}
use Rattle.fact_list.proofs.list.shortened.Given as goal

abbrev pub invariant-loop-list : goal.invariant-loop-list
invariant-loop-list l = take l.count l.list ≡ take l.count l.fn.list

abbrev pub decreases-loop-list : goal.decreases-loop-list
decreases-loop-list l = length l.list
