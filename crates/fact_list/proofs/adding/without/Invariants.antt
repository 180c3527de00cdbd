use Rattle.std.proofs.Common.{◌≡◌, ◌++◌, drop}
use Rattle.fact_list.proofs.AddLaws.{left_over}
use Rattle.fact_list.specs.Atoms.{without}
use Rattle.fact_list.proofs.adding.without.Given as goal

abbrev pub invariant-loop-other : goal.invariant-loop-other
invariant-loop-other l = l.others ++ left_over l.found l.factor (drop l.other-index l.factors) ≡ without l.factor l.factors
