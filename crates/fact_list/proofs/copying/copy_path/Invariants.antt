use Rattle.std.proofs.Common.{◌≡◌, take}
use Rattle.fact_list.proofs.copying.copy_path.Given as goal

abbrev pub invariant-loop-fact : goal.invariant-loop-fact
invariant-loop-fact l = l.copies ≡ take l.fact-index l.path
