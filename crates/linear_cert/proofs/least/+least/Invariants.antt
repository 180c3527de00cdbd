use Rattle.std.proofs.Common.{◌≡◌, drop}
use Rattle.linear_cert.specs.DefaultLines.{lesser, list_least, terms_least}
use Rattle.linear_cert.proofs.least.+least.Given as goal

abbrev pub invariant-atoms_least-loop-atom : goal.invariant-atoms_least-loop-atom
invariant-atoms_least-loop-atom l = lesser l.least (list_least (drop l.atom-index l.atoms)) ≡ list_least l.atoms

abbrev pub invariant-terms_least-loop-term : goal.invariant-terms_least-loop-term
invariant-terms_least-loop-term l = lesser l.least (terms_least (drop l.term-index l.terms)) ≡ terms_least l.terms
