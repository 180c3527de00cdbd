use Rattle.std.proofs.Common.{◌≡◌, ◌++◌, true, drop}
use Rattle.final_rules.specs.Form.{each_shifted}
use Rattle.index_limits.specs.Ready.{indices_move}
use Rattle.index_limits.proofs.stores.all_moved.Given as goal

abbrev pub invariant-loop-index : goal.invariant-loop-index
invariant-loop-index l = record {
  moves : indices_move (drop l.index-index l.indices) ≡ true;
  rest : l.all ++ each_shifted (drop l.index-index l.indices) ≡ each_shifted l.indices;
}
