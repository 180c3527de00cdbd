use Rattle.std.proofs.Common.{◌≡◌, drop, IsTrue}
use Rattle.index_trees.specs.Tree.{atoms_fit, terms_fit, joined_atoms, plus_terms, minus_terms}
use Rattle.index_trees.proofs.tree.+tree.Given as goal

abbrev pub invariant-joined_atoms-loop-atom : goal.invariant-joined_atoms-loop-atom
invariant-joined_atoms-loop-atom l = record {
  fits : IsTrue (atoms_fit (drop l.atom-index l.atoms));
  rest : joined_atoms l.loops (drop l.atom-index l.atoms) l.product ≡ joined_atoms l.loops l.atoms l.fn.start;
}

abbrev pub invariant-plus_terms-loop-term : goal.invariant-plus_terms-loop-term
invariant-plus_terms-loop-term l = record {
  fits : IsTrue (terms_fit (drop l.term-index l.terms));
  rest : plus_terms l.loops (drop l.term-index l.terms) l.sum ≡ plus_terms l.loops l.terms l.fn.start;
}

abbrev pub invariant-minus_terms-loop-term : goal.invariant-minus_terms-loop-term
invariant-minus_terms-loop-term l = record {
  fits : IsTrue (terms_fit (drop l.term-index l.terms));
  rest : minus_terms l.loops (drop l.term-index l.terms) l.tree ≡ minus_terms l.loops l.terms l.fn.start;
}
