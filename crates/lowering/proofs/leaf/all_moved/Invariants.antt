use Rattle.std.proofs.Common.{◌≡◌, ◌++◌, drop}
use Rattle.final_rules.specs.Form.{each_shifted}
use Rattle.lowering.proofs.leaf.all_moved.Given as goal

abbrev pub invariant-loop-index : goal.invariant-loop-index
invariant-loop-index l = l.all ++ each_shifted (drop l.index-index l.indices) ≡ each_shifted l.indices
