use Rattle.std.proofs.Common.{◌≡◌, drop}
use Rattle.affine_index.specs.Normal.{terms_fit}
use Rattle.affine_index.proofs.limits.terms_fit.Given as goal

abbrev pub invariant-loop-at : goal.invariant-loop-at
invariant-loop-at l = terms_fit (drop l.at l.terms) ≡ terms_fit l.terms
