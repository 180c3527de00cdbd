use Rattle.std.proofs.Common.{◌≡◌, drop}
use Rattle.affine_index.specs.Normal.{any_holds, any_term_holds}
use Rattle.affine_index.proofs.vars.+vars.Given as goal

abbrev pub invariant-any_holds-loop-atom : goal.invariant-any_holds-loop-atom
invariant-any_holds-loop-atom l = any_holds (drop l.atom-index l.atoms) ≡ any_holds l.atoms

abbrev pub invariant-any_term_holds-loop-term : goal.invariant-any_term_holds-loop-term
invariant-any_term_holds-loop-term l = any_term_holds (drop l.term-index l.terms) ≡ any_term_holds l.terms
