use Rattle.std.proofs.Common.{◌≡◌, drop}
use Rattle.affine_index.proofs.Induction.{Each, EachTerm}
use Rattle.fact_list.specs.Facts.{NormalAtom, meet_all}
use Rattle.fact_list.specs.Within.{list_parts, terms_parts}
use Rattle.fact_list.proofs.walk.+walk.Given as goal

abbrev pub invariant-meet_atoms-loop-atom : goal.invariant-meet_atoms-loop-atom
invariant-meet_atoms-loop-atom l = record {
  normal : Each NormalAtom (drop l.atom-index l.atoms);
  rest : meet_all l.facts l.more (list_parts (drop l.atom-index l.atoms)) ≡ meet_all l.facts l.fn.met (list_parts l.atoms);
}

abbrev pub invariant-meet_terms-loop-term : goal.invariant-meet_terms-loop-term
invariant-meet_terms-loop-term l = record {
  normal : EachTerm NormalAtom (drop l.term-index l.terms);
  rest : meet_all l.facts l.more (terms_parts (drop l.term-index l.terms)) ≡ meet_all l.facts l.fn.met (terms_parts l.terms);
}
