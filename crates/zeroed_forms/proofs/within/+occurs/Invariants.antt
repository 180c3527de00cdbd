use Rattle.std.proofs.Common.{◌≡◌, drop}
use Rattle.zeroed_forms.specs.Occurs.{atoms_have, terms_have}
use Rattle.zeroed_forms.proofs.within.+occurs.Given as goal

abbrev pub invariant-atoms_have-loop-atom : goal.invariant-atoms_have-loop-atom
invariant-atoms_have-loop-atom l = atoms_have l.z.atom.now (drop l.atom-index l.atoms) ≡ atoms_have l.z.atom.now l.atoms

abbrev pub invariant-terms_have-loop-term : goal.invariant-terms_have-loop-term
invariant-terms_have-loop-term l = terms_have l.z.atom.now (drop l.term-index l.terms) ≡ terms_have l.z.atom.now l.terms
