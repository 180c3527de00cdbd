use Rattle.std.proofs.Common.{◌≡◌, drop, length, IsTrue}
use Rattle.std.specs.Prelude.{pos}
use Rattle.affine_index.specs.Limited.{times_all, added_all, atoms_ready, terms_ready}
use Rattle.affine_index.proofs.value.+value.Given as goal

abbrev pub invariant-times_all-loop-atom : goal.invariant-times_all-loop-atom
invariant-times_all-loop-atom l = record {
  ready : IsTrue (atoms_ready (length l.sizes) (length l.vars) (drop l.atom-index l.atoms));
  rest : times_all l.sizes l.vars (drop l.atom-index l.atoms) l.product ≡ times_all l.sizes l.vars l.atoms l.number;
}

abbrev pub invariant-added_all-loop-term : goal.invariant-added_all-loop-term
invariant-added_all-loop-term l = record {
  ready : IsTrue (terms_ready (length l.sizes) (length l.vars) (drop l.term-index l.terms));
  rest : added_all l.sizes l.vars (drop l.term-index l.terms) l.total ≡ added_all l.sizes l.vars l.terms (pos 0);
}
