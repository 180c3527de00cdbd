use Rattle.std.proofs.Common.{rules, ◌∙◌, ap, sym, subst}
use Rattle.affine_index.specs.Normal.{is_normal}
use Rattle.affine_index.specs.declared.form.Atom.TheViews.{the_lemmas}
use Rattle.affine_index.proofs.Induction.{Each, EachTerm}
use Rattle.fact_list.proofs.CodeLaws.{dividend-normal, factors-normal}
use Rattle.fact_list.proofs.WalkLaws.{atoms-next, each-next, each_term-next, terms-next, terms-normal}
use Rattle.fact_list.specs.Facts.{NormalAtom}
use Rattle.fact_list.proofs.walk.+walk.Goals as goal

pub meet_atom-meet_items-requires : goal.meet_atom-meet_items-requires
meet_atom-meet_items-requires t c =
    (search (rules, the_lemmas), ap is_normal c.get.ensures ∙ dividend-normal c.in-Div.dividend c.in-Div.field-1 (subst NormalAtom c.in-Div.is c.requires))

pub meet_atom-meet_atoms-requires : goal.meet_atom-meet_atoms-requires
meet_atom-meet_atoms-requires t c =
    (search (rules, the_lemmas), subst (Each NormalAtom) (sym c.as_slice.ensures) (factors-normal c.in-Mul.factors (subst NormalAtom c.in-Mul.is c.requires)))

pub meet_atoms-loop-atom-preserved : goal.meet_atoms-loop-atom-preserved
meet_atoms-loop-atom-preserved t c = record {
  normal = each-next NormalAtom c.args.atoms.now c.loop-atom.atom-index c.loop-atom-test.true c.loop-atom.invariant.normal;
  rest = atoms-next c.args.facts.now c.loop-atom.more c.in_ok-more.more c.args.atoms.now c.loop-atom.atom-index c.atom-item.result c.loop-atom-test.true
      c.atom-item.is (c.in_ok-more.ensures {u = tt}) ∙ c.loop-atom.invariant.rest;
}

pub meet_items-meet_terms-requires : goal.meet_items-meet_terms-requires
meet_items-meet_terms-requires t c =
    (search (rules, the_lemmas), subst (EachTerm NormalAtom) (sym c.as_slice.ensures) (terms-normal c.args.items.now c.requires))

pub meet_terms-loop-term-preserved : goal.meet_terms-loop-term-preserved
meet_terms-loop-term-preserved t c = record {
  normal = each_term-next NormalAtom c.args.terms.now c.loop-term.term-index c.loop-term-test.true c.loop-term.invariant.normal;
  rest = terms-next c.args.facts.now c.loop-term.more c.in_ok-more.more c.args.terms.now c.loop-term.term-index c.term-item.result c.loop-term-test.true
      c.term-item.is (c.in_ok-more.ensures {u = tt}) ∙ c.loop-term.invariant.rest;
}
