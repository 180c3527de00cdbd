use Rattle.std.proofs.Common.{◌≡◌, take}
use Rattle.atl_meaning.proofs.build.+copy.Given as goal

abbrev pub invariant-copied-loop-row : goal.invariant-copied-loop-row
invariant-copied-loop-row l = l.copies ≡ take l.row-index l.rows
