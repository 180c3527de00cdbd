use Rattle.std.proofs.Common.{◌≡◌, [], drop, true}
use Rattle.atl_meaning.specs.Exact.{outputs_exact}
use Rattle.atl_meaning.specs.Turns.{spent, turn_folds}
use Rattle.atl_meaning.proofs.outputs.left_of_limit.Given as goal

abbrev pub invariant-loop-output : goal.invariant-loop-output
invariant-loop-output l = record {
  vars : l.vars ≡ [];
  exact : outputs_exact l.sizes (drop l.output-index l.outputs) ≡ true;
  rest : spent (turn_folds l.sizes (drop l.output-index l.outputs)) l.left ≡ spent (turn_folds l.sizes l.outputs) l.limit;
}
