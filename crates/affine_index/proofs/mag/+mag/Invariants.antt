use Rattle.std.proofs.Common.{◌≡◌, ◌≤◌, ◌+◌, ◌*◌, ◌^◌, drop, length, min, IsTrue}
use Rattle.affine_index.specs.Limited.{atoms_ready, terms_ready}
use Rattle.affine_index.specs.Magnitude.{factors_magnitude, terms_magnitude}
use Rattle.affine_index.proofs.mag.+mag.Given as goal

abbrev pub invariant-factors_mag-loop-atom : goal.invariant-factors_mag-loop-atom
invariant-factors_mag-loop-atom l = record {
  ready : IsTrue (atoms_ready (length l.maxima) (length l.vars) (drop l.atom-index l.atoms));
  stop : l.product ≤ 2 ^ 63;
  rest : min (l.product * factors_magnitude l.maxima l.vars (drop l.atom-index l.atoms)) (2 ^ 63) ≡ min (factors_magnitude l.maxima l.vars l.atoms) (2 ^ 63);
}

abbrev pub invariant-terms_mag-loop-term : goal.invariant-terms_mag-loop-term
invariant-terms_mag-loop-term l = record {
  ready : IsTrue (terms_ready (length l.maxima) (length l.vars) (drop l.term-index l.terms));
  stop : l.total ≤ 2 ^ 63;
  rest : min (l.total + terms_magnitude l.maxima l.vars (drop l.term-index l.terms)) (2 ^ 63) ≡ min (terms_magnitude l.maxima l.vars l.terms) (2 ^ 63);
}
