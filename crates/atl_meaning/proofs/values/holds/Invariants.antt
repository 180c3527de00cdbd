use Rattle.std.proofs.Common.{◌≡◌, drop, true}
use Rattle.affine_index.specs.Condition.{all_hold}
use Rattle.atl_meaning.specs.Exact.{all_exact}
use Rattle.atl_meaning.proofs.values.holds.Given as goal

abbrev pub invariant-loop-comparison : goal.invariant-loop-comparison
invariant-loop-comparison l = record {
  exact : all_exact l.sizes l.vars (drop l.comparison-index l.comparison-items) ≡ true;
  rest : all_hold l.sizes l.vars (drop l.comparison-index l.comparison-items) ≡ all_hold l.sizes l.vars l.comparison-items;
}
