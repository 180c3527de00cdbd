use Rattle.std.proofs.Common.{◌≡◌, drop}
use Rattle.affine_index.specs.Limited.{atoms_scoped, terms_scoped}
use Rattle.affine_index.proofs.scope.+scope.Given as goal

abbrev pub invariant-atoms_scoped-loop-atom : goal.invariant-atoms_scoped-loop-atom
invariant-atoms_scoped-loop-atom l = atoms_scoped l.sizes l.vars (drop l.atom-index l.atoms) ≡ atoms_scoped l.sizes l.vars l.atoms

abbrev pub invariant-terms_scoped-loop-term : goal.invariant-terms_scoped-loop-term
invariant-terms_scoped-loop-term l = terms_scoped l.sizes l.vars (drop l.term-index l.terms) ≡ terms_scoped l.sizes l.vars l.terms
