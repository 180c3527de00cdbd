use Rattle.std.proofs.Common.{◌≡◌, drop, length, true}
use Rattle.affine_index.specs.Condition.{all_scoped}
use Rattle.atl_meaning.specs.Words.{any_large_comparison}
use Rattle.atl_meaning.proofs.words.any_large_comparison.Given as goal

abbrev pub invariant-loop-comparison : goal.invariant-loop-comparison
invariant-loop-comparison l = record {
  scoped : all_scoped (length l.sizes) (length l.vars) (drop l.comparison-index l.comparison-items) ≡ true;
  rest : any_large_comparison l.sizes l.vars (drop l.comparison-index l.comparison-items) ≡ any_large_comparison l.sizes l.vars l.comparison-items;
}
