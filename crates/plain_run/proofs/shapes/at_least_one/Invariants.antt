use Rattle.std.proofs.Common.{◌≡◌, take}
use Rattle.atl_meaning.specs.Words.{at_least_one}
use Rattle.plain_run.proofs.shapes.at_least_one.Given as goal

abbrev pub invariant-loop-size : goal.invariant-loop-size
invariant-loop-size l = l.floor ≡ at_least_one (take l.size-index l.sizes)
