use Rattle.std.proofs.Common.{rules, ◌≡◌, ◌∙◌, ◌+◌, ap, sym, drop, true, false}
use Rattle.std.proofs.lemmas.Int.{to_z-of_z}
use mir.Syntax.{w64}
use mir.Val.{SFits}
use Rattle.affine_index.specs.declared.form.Atom.TheViews.{the_lemmas}
use Rattle.fact_list.specs.Atoms.{same_atoms}
use Rattle.zeroed_forms.specs.Zeroed.{atom_zeroed, factors_zeroed, plus, product, quotient, terms_zeroed, times, zeroed}
use Rattle.zeroed_forms.proofs.ZeroLaws.{factors-next, other-Div, same_ok, terms-next, where-zero, zero-same}
use Rattle.zeroed_forms.proofs.zeroing.+zero.Goals as goal

pub atom_zeroed-returns-then-same_atoms : goal.atom_zeroed-returns-then-same_atoms
atom_zeroed-returns-then-same_atoms t c =
    let same : same_atoms c.args.z.now.atom.now c.args.atom.now ≡ true = search rules in
    same_ok c.literal.result _ _ (where-zero ∙ sym (zero-same c.args.z.now.atom.now c.args.atom.now same)) c.literal.ensures

pub atom_zeroed-items_zeroed-requires : goal.atom_zeroed-items_zeroed-requires
atom_zeroed-items_zeroed-requires t c = search (rules, the_lemmas)

pub atom_zeroed-factors_zeroed-requires : goal.atom_zeroed-factors_zeroed-requires
atom_zeroed-factors_zeroed-requires t c = search (rules, the_lemmas)

pub factors_zeroed-atom_zeroed-requires : goal.factors_zeroed-atom_zeroed-requires
factors_zeroed-atom_zeroed-requires t c = search (rules, the_lemmas)

pub factors_zeroed-loop-factor-preserved : goal.factors_zeroed-loop-factor-preserved
factors_zeroed-loop-factor-preserved t c =
    let z = c.args.z.now.atom.now in
    let fs = c.args.factors.now in
    let at = c.loop-factor.factor-index in
    ap (factors_zeroed z (drop (at + 1) fs)) (c.in_ok-all-2.ensures {u = tt} ∙ ap (product c.loop-factor.all) (c.in_ok-form.ensures {u = tt}))
    ∙ factors-next z fs at c.factor-item.result c.loop-factor.all c.loop-factor-test.true c.factor-item.is
    ∙ c.loop-factor.invariant

pub items_zeroed-terms_zeroed-requires : goal.items_zeroed-terms_zeroed-requires
items_zeroed-terms_zeroed-requires t c = search (rules, the_lemmas)

pub terms_zeroed-atom_zeroed-requires : goal.terms_zeroed-atom_zeroed-requires
terms_zeroed-atom_zeroed-requires t c = search (rules, the_lemmas)

pub terms_zeroed-loop-term-preserved : goal.terms_zeroed-loop-term-preserved
terms_zeroed-loop-term-preserved t c =
    let z = c.args.z.now.atom.now in
    let ts = c.args.terms.now in
    let at = c.loop-term.term-index in
    let item = c.term-item.result in
    let word : SFits w64 item.coefficient = search rules in
    let narrow = to_z-of_z w64 item.coefficient word in
    ap (terms_zeroed z (drop (at + 1) ts))
    (c.in_ok-all-2.ensures {u = tt} ∙ ap (plus c.loop-term.all)
    (c.in_ok-item.ensures {u = tt} ∙ (λ k. times (narrow k) (c.in_ok-form.ensures {u = tt} k))))
    ∙ terms-next z ts at item c.loop-term.all c.loop-term-test.true c.term-item.is
    ∙ c.loop-term.invariant

pub atom_zeroed-returns-in_ok-form-in-Div : goal.atom_zeroed-returns-in_ok-form-in-Div
atom_zeroed-returns-in_ok-form-in-Div t c =
    let z = c.args.z.now.atom.now in
    let other : same_atoms z c.args.atom.now ≡ false = search rules in
    same_ok c.quotient.result _ _
    (ap (λ o. quotient o c.in-Div.divisor) (c.in_ok-form-in-Div.ensures {u = tt} ∙ ap (zeroed z) c.get.ensures)
    ∙ sym (other-Div z c.in-Div.dividend c.in-Div.divisor (sym (ap (same_atoms z) c.in-Div.is) ∙ other))
    ∙ ap (atom_zeroed z) (sym c.in-Div.is)) c.quotient.ensures
