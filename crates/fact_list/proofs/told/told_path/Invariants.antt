use Rattle.std.proofs.Common.{drop}
use Rattle.fact_list.specs.Normal.{PathNormal}
use Rattle.fact_list.proofs.told.told_path.Given as goal

abbrev pub invariant-loop-fact : goal.invariant-loop-fact
invariant-loop-fact l = PathNormal (drop l.fact-index l.path) → PathNormal l.path
