use Rattle.std.proofs.Common.{rules, ◌≡◌, ◌∙◌, ap, sym, subst, ◌+◌, ◌-◌, ◌*◌, ◌<◌, ◌^◌, drop, length, arith}
use Rattle.std.proofs.lemmas.Int.{to_z-of_z}
use Rattle.std.specs.Prelude.{ℤ}
use Rattle.std.specs.Int.RustNames.{unsigned_abs}
use mir.Syntax.{w64, w128}
use mir.Val.{SFits}
use Rattle.affine_index.proofs.ArithmeticLaws.{ok_same}
use Rattle.affine_index.proofs.Factors.{Ordered}
use Rattle.affine_index.proofs.NormLaws.{sum-norm}
use Rattle.affine_index.proofs.PutLaws.{put-items}
use Rattle.affine_index.proofs.PutSteps.{dividend-normal, dividend-room, divisor-positive, factor-few, factor-ordered, form-terms, item_facts, product-drop}
use Rattle.affine_index.proofs.PutSteps.{product-next, product-room, put_terms-next, room-next, scaled-fits}
use Rattle.affine_index.specs.Count.{atom_count, terms_count}
use Rattle.affine_index.specs.Every.{terms_every}
use Rattle.affine_index.specs.Form.{literal_form}
use Rattle.affine_index.specs.Normal.{atom_good, coefficient_fits, is_normal, items_good, terms_fit}
use Rattle.affine_index.specs.Put.{put_all, put_atom, put_terms}
use Rattle.affine_index.specs.Puts.{what_put}
use Rattle.affine_index.specs.Sum.{scaled, sum_of}
use Rattle.affine_index.specs.Wide.{norm}
use Rattle.affine_index.specs.declared.form.Atom.TheViews.{the_lemmas}
use Rattle.affine_index.proofs.put.+put.Goals as goal

pub put_atom-put_items-requires : goal.put_atom-put_items-requires
put_atom-put_items-requires t c = (
  search (rules, the_lemmas),
  (
    c.requires.normal,
    ap is_normal c.get.ensures
        ∙ dividend-normal c.in-Div.items c.in-Div.divisor (subst Ordered c.in-Div.is c.requires.ordered)
        (omega (arith, ap atom_count c.in-Div.is, c.requires.short)),
  ),
)

pub put_atom-quotient-requires-clause-positive : goal.put_atom-quotient-requires-clause-positive
put_atom-quotient-requires-clause-positive t c = divisor-positive c.in-Div.items c.in-Div.divisor (subst Ordered c.in-Div.is c.requires.ordered)

pub put_atom-quotient-requires-clause-room : goal.put_atom-quotient-requires-clause-room
put_atom-quotient-requires-clause-room t c =
    dividend-room (what_put c.args.by.now) c.requires.normal c.in-Div.items c.in_ok-form-in-Div.form
    (dividend-normal c.in-Div.items c.in-Div.divisor (subst Ordered c.in-Div.is c.requires.ordered)
    (omega (arith, ap atom_count c.in-Div.is, c.requires.short)))
    (c.in_ok-form-in-Div.ensures {u = tt} ∙ ap (put_all (what_put c.args.by.now)) c.get.ensures)

pub put_factors-put_atom-requires : goal.put_factors-put_atom-requires
put_factors-put_atom-requires t c =
    let fs = c.args.factors.now in
    let at = c.loop-left.left - 1 in
    let x = c.index-factors-left.result in
    let lt : at < length fs = omega (arith, c.loop-left.invariant.within, c.loop-left-test.true) in (
      search (rules, the_lemmas),
      (
        c.requires.normal,
        (
          factor-ordered fs at x c.requires.ordered lt c.index-factors-left.is,
          factor-few fs at x c.requires.short lt c.index-factors-left.is,
        ),
      ),
    )

pub put_factors-times-requires : goal.put_factors-times-requires
put_factors-times-requires t c =
    let fs = c.args.factors.now in
    let f = what_put c.args.by.now in
    let at = c.loop-left.left - 1 in
    let x = c.index-factors-left.result in
    let lt : at < length fs = omega (arith, c.loop-left.invariant.within, c.loop-left-test.true) in
    let both = product-room f c.requires.normal c.in_ok-form.form c.loop-left.forms x fs c.loop-left.left (c.in_ok-form.ensures {u = tt})
    c.loop-left.invariant.rest
    (factor-ordered fs at x c.requires.ordered lt c.index-factors-left.is) (factor-few fs at x c.requires.short lt c.index-factors-left.is) c.requires.ordered
    c.requires.short in
    record { room = both.0; second = both.1 }

pub put_factors-loop-left-preserved : goal.put_factors-loop-left-preserved
put_factors-loop-left-preserved t c =
    let fs = c.args.factors.now in
    let f = what_put c.args.by.now in
    let at = c.loop-left.left - 1 in
    let x = c.index-factors-left.result in
    let lt : at < length fs = omega (arith, c.loop-left.invariant.within, c.loop-left-test.true) in
    let left : c.loop-left.left ≡ at + 1 = omega (arith, c.loop-left-test.true) in
    record {
      within = omega (arith, c.loop-left.invariant.within);
      rest = c.in_ok-forms.ensures {u = tt}
          ∙ product-next f fs at x c.in_ok-form.form c.loop-left.forms lt c.index-factors-left.is (c.in_ok-form.ensures {u = tt})
          (c.loop-left.invariant.rest ∙ product-drop f fs left);
    }

pub put_items-put_terms-requires : goal.put_items-put_terms-requires
put_items-put_terms-requires t c =
    let fits : SFits w64 c.args.items.now.constant = search rules in
    let facts = form-terms c.args.items.now c.requires.form in
    let e = c.as_slice.ensures in (
      search (rules, the_lemmas),
      (
        c.requires.normal,
        (
          ap (terms_every atom_good items_good) e ∙ facts.0,
          (
            ap terms_fit e ∙ facts.1,
            (ap coefficient_fits (to_z-of_z w64 c.args.items.now.constant fits) ∙ facts.2, omega (arith, ap terms_count e, facts.3)),
          ),
        ),
      ),
    )

pub put_items-returns : goal.put_items-returns
put_items-returns t c =
    let f = what_put c.args.by.now in
    let fits : SFits w64 c.args.items.now.constant = search rules in
    ok_same c.put_terms.result _ _
    ((λ i. put_terms f (c.as_slice.ensures i) (literal_form (to_z-of_z w64 c.args.items.now.constant fits i))) ∙ sym (put-items f c.args.items.now))
    c.put_terms.ensures

pub put_terms-put_atom-requires : goal.put_terms-put_atom-requires
put_terms-put_atom-requires t c =
    let facts = item_facts c.args.terms.now c.loop-term.term-index c.term-item.result c.loop-term-test.true c.term-item.is c.requires.ordered c.requires.fits
    c.requires.short in
    (search (rules, the_lemmas), (c.requires.normal, (facts.ordered, facts.short)))

pub put_terms-plus-requires : goal.put_terms-plus-requires
put_terms-plus-requires t c =
    let f = what_put c.args.by.now in
    let ts = c.args.terms.now in
    let at = c.loop-term.term-index in
    let item = c.term-item.result in
    let facts = item_facts ts at item c.loop-term-test.true c.term-item.is c.requires.ordered c.requires.fits c.requires.short in
    let word : SFits w64 item.coefficient = search rules in
    let z = to_z-of_z w64 item.coefficient word in
    let fits : ℤ → Type 0 = λ x. unsigned_abs x * norm c.in_ok-form.form < 2 ^ 127 in
    let p : scaled item.coefficient c.in_ok-form.form ≡ scaled item.coefficient (put_atom f item.atom) =
    ap (scaled item.coefficient) (c.in_ok-form.ensures {u = tt}) in
    let few : norm c.loop-term.total + norm (scaled item.coefficient c.in_ok-form.form) < 2 ^ 127 =
    omega (
      arith,
      ap norm p,
      room-next f c.requires.normal ts at item c.loop-term-test.true c.term-item.is facts,
      c.loop-term.invariant.room,
      c.requires.short,
    ) in
    let roomy : ℤ → Type 0 = λ x. norm c.loop-term.total + norm (scaled x c.in_ok-form.form) < 2 ^ 127 in
    record {
      product = subst fits (sym z) (scaled-fits f c.requires.normal item c.in_ok-form.form facts (c.in_ok-form.ensures {u = tt}));
      room = subst roomy (sym z) few;
    }

pub put_terms-loop-term-preserved : goal.put_terms-loop-term-preserved
put_terms-loop-term-preserved t c =
    let f = what_put c.args.by.now in
    let ts = c.args.terms.now in
    let at = c.loop-term.term-index in
    let item = c.term-item.result in
    let facts = item_facts ts at item c.loop-term-test.true c.term-item.is c.requires.ordered c.requires.fits c.requires.short in
    let word : SFits w64 item.coefficient = search rules in
    let z = to_z-of_z w64 item.coefficient word in
    let s : c.in_ok-total.total ≡ sum_of c.loop-term.total (scaled item.coefficient (put_atom f item.atom)) =
    c.in_ok-total.ensures {u = tt} ∙ (λ k. sum_of c.loop-term.total (scaled (z k) (c.in_ok-form.ensures {u = tt} k))) in
    record {
      room = omega (
        arith,
        ap norm s,
        sum-norm c.loop-term.total (scaled item.coefficient (put_atom f item.atom)),
        room-next f c.requires.normal ts at item c.loop-term-test.true c.term-item.is facts,
        c.loop-term.invariant.room,
      );
      rest = ap (put_terms f (drop (at + 1) ts)) s ∙ put_terms-next f ts at item c.loop-term.total c.loop-term-test.true c.term-item.is
          ∙ c.loop-term.invariant.rest;
    }
