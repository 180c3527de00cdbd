use Rattle.std.proofs.Common.{◌≡◌, take}
use Rattle.final_verdict.proofs.copying.copy_finals.Given as goal

abbrev pub invariant-loop-line : goal.invariant-loop-line
invariant-loop-line l = l.copies ≡ take l.line-index l.finals
