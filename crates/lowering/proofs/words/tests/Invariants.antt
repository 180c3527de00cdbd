use Rattle.std.proofs.Common.{◌≡◌, map, take}
use Rattle.final_rules.specs.Owed.{test_of}
use Rattle.lowering.proofs.words.tests.Given as goal

abbrev pub invariant-loop-cmp : goal.invariant-loop-cmp
invariant-loop-cmp l = l.all ≡ map (test_of l.loops) (take l.cmp-index l.cmps)
