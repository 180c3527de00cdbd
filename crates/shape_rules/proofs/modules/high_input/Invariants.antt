use Rattle.shape_rules.specs.Faults.{AllBefore, RankFits}
use Rattle.shape_rules.proofs.modules.high_input.Given as goal

abbrev pub invariant-loop-i : goal.invariant-loop-i
invariant-loop-i l = AllBefore RankFits l.i l.inputs
