use Rattle.std.proofs.Common.{◌≡◌, ◌≤◌, ◌^◌, max, map, drop}
use Rattle.binders.specs.Bound.{atom_bound, largest, terms_bound}
use Rattle.binders.proofs.bound.+bound.Given as goal

abbrev pub invariant-factors_bound-loop-factor : goal.invariant-factors_bound-loop-factor
invariant-factors_bound-loop-factor l = record {
  limit : l.most ≤ 2 ^ 32;
  rest : max l.most (largest (map atom_bound (drop l.factor-index l.factors))) ≡ largest (map atom_bound l.factors);
}

abbrev pub invariant-terms_bound-loop-term : goal.invariant-terms_bound-loop-term
invariant-terms_bound-loop-term l = record {
  limit : l.most ≤ 2 ^ 32;
  rest : max l.most (terms_bound (drop l.term-index l.terms)) ≡ terms_bound l.terms;
}
