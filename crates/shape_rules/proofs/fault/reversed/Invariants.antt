use Rattle.std.proofs.Common.{◌≡◌, ◌++◌, length, reverse}
use Rattle.shape_rules.proofs.fault.reversed.Given as goal

abbrev pub invariant-loop-number : goal.invariant-loop-number
invariant-loop-number l = l.turned ++ reverse l.rest ≡ reverse l.initial.rest

abbrev pub decreases-loop-number : goal.decreases-loop-number
decreases-loop-number l = length l.rest
