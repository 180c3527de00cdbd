use Rattle.std.proofs.Common.{◌≡◌, ◌+◌, ◌∙◌, ap, drop, subst, sym, rules, Bool, true, IfOk}
use Rattle.std.specs.Prelude.{if◌then◌else◌}
use Rattle.std.proofs.lemmas.Bool.{and_parts}
use Rattle.std.proofs.lemmas.Int.{to_z-of_z}
use mir.Val.{SFits}
use mir.Syntax.{w64}
use Rattle.affine_index.specs.declared.form.Atom.TheViews.{the_lemmas}
use Rattle.affine_index.specs.Printed.{is_positive}
use Rattle.index_trees.specs.Tree.{terms_fit, number_fits, item_tree, joined_atom, plus_terms, minus_terms, with_summand}
use Rattle.index_trees.proofs.TreeLaws.{fits-items, fits-Mul, rest_is, rest_fits}
use Rattle.index_trees.proofs.tree.+tree.Goals as goal

pub form_after-plus_terms-requires : goal.form_after-plus_terms-requires
form_after-plus_terms-requires t c = (
  search (rules, the_lemmas),
  subst (λ ts. terms_fit ts ≡ true) (sym c.as_slice.ensures)
      (and_parts (number_fits c.args.form.now.constant) (terms_fit c.args.form.now.terms) (sym (fits-items c.args.form.now) ∙ c.requires)).1,
)

pub form_after-minus_terms-requires : goal.form_after-minus_terms-requires
form_after-minus_terms-requires t c = (
  search (rules, the_lemmas),
  subst (λ ts. terms_fit ts ≡ true) (sym c.as_slice-2.ensures)
      (and_parts (number_fits c.args.form.now.constant) (terms_fit c.args.form.now.terms) (sym (fits-items c.args.form.now) ∙ c.requires)).1,
)

pub joined_atom-joined_atoms-requires : goal.joined_atom-joined_atoms-requires
joined_atom-joined_atoms-requires t c = (search (rules, the_lemmas), cc (fits-Mul c.in-Mul.factors))

pub plus_terms-plus_item-requires : goal.plus_terms-plus_item-requires
plus_terms-plus_item-requires t c =
    let f : SFits w64 c.term-item.result.coefficient = search rules in (
      search (rules, the_lemmas),
      rw (to_z-of_z w64 c.term-item.result.coefficient f)
          (rest_fits c.args.terms.now c.loop-term.term-index c.term-item.result c.term-item.is c.loop-term-test.true c.loop-term.invariant.fits).0,
    )

pub plus_terms-loop-term-preserved : goal.plus_terms-loop-term-preserved
plus_terms-loop-term-preserved t c =
    let f : SFits w64 c.term-item.result.coefficient = search rules in
    let e = rest_is c.args.terms.now c.loop-term.term-index c.term-item.result c.term-item.is c.loop-term-test.true in
    record {
      fits = (rest_fits c.args.terms.now c.loop-term.term-index c.term-item.result c.term-item.is c.loop-term-test.true c.loop-term.invariant.fits).1;
      rest =
          ap (plus_terms c.args.loops (drop (c.loop-term.term-index + 1) c.args.terms.now))
          (rw (to_z-of_z w64 c.term-item.result.coefficient f) at c.in_ok-sum.ensures)
          ∙ ap (λ us. plus_terms c.args.loops us c.loop-term.sum) (sym e)
          ∙ c.loop-term.invariant.rest;
    }

pub minus_terms-minus_item-requires : goal.minus_terms-minus_item-requires
minus_terms-minus_item-requires t c =
    let f : SFits w64 c.term-item.result.coefficient = search rules in (
      search (rules, the_lemmas),
      rw (to_z-of_z w64 c.term-item.result.coefficient f)
          (rest_fits c.args.terms.now c.loop-term.term-index c.term-item.result c.term-item.is c.loop-term-test.true c.loop-term.invariant.fits).0,
    )

pub minus_terms-loop-term-preserved : goal.minus_terms-loop-term-preserved
minus_terms-loop-term-preserved t c =
    let f : SFits w64 c.term-item.result.coefficient = search rules in
    let e = rest_is c.args.terms.now c.loop-term.term-index c.term-item.result c.term-item.is c.loop-term-test.true in
    record {
      fits = (rest_fits c.args.terms.now c.loop-term.term-index c.term-item.result c.term-item.is c.loop-term-test.true c.loop-term.invariant.fits).1;
      rest =
          ap (minus_terms c.args.loops (drop (c.loop-term.term-index + 1) c.args.terms.now))
          (rw (to_z-of_z w64 c.term-item.result.coefficient f) at c.in_ok-tree.ensures)
          ∙ ap (λ us. minus_terms c.args.loops us c.loop-term.tree) (sym e)
          ∙ c.loop-term.invariant.rest;
    }

pub plus_item-returns-then-coefficient-gt0 : goal.plus_item-returns-then-coefficient-gt0
plus_item-returns-then-coefficient-gt0 t c =
    let item = item_tree c.args.coefficient (joined_atom c.args.loops c.args.atom.now) in
    let f : SFits w64 c.args.coefficient = search rules in
    let positive : is_positive c.args.coefficient ≡ true = search rules in
    subst (λ (b : Bool). IfOk c.plus_tree.result (λ r. r ≡ (if b then with_summand c.args.sum item else c.args.sum))) (sym positive)
    (c.plus_tree.ensures item (rw (to_z-of_z w64 c.args.coefficient f) at c.item_tree.ensures))
