use Rattle.std.proofs.Common.{◌≡◌, true, ◌∷◌, ap, sym, subst, refl, ◌∙◌, arith, inl, inr, IfOk}
use Rattle.region_plan.proofs.WalkLaws.{body_shaped, definition_shaped, falls, let_less, let_shaped, one_less, one_shaped, two_less, two_shaped}
use Rattle.region_plan.specs.Shaped.{IsShaped}
use Rattle.shape_rules.specs.Scopes.{all_free, given}
use Rattle.term_tree.specs.Shape.{Extents, shape_of}
use Rattle.final_rules.specs.Form.{Node, first_node, in_child, no_extents, unless}
use Rattle.final_rules.specs.Places.{extents_under}
use Rattle.final_rules.proofs.OutsideLaws.{let-node, one_outside, pair-node, sub-node, two_of, word-index, word-mul}
use Rattle.final_rules.proofs.form.+outside.Goals as goal

pub outside-extents_under-requires-clause-shaped : goal.outside-extents_under-requires-clause-shaped
outside-extents_under-requires-clause-shaped t c =
    (two_shaped c.args.shapes.now c.args.term.now c.in-Sub.a c.in-Sub.field-1 c.get.result.now c.in-Sub.field-1 c.get.ensures refl
    (inr (inl c.in-Sub.is)) c.requires.shaped).0

pub outside-outside-requires : goal.outside-outside-requires
outside-outside-requires t c =
    let l = let_less c.args.term.now c.in-Let.a c.in-Let.b c.get-in-Let.result.now c.in-Let.b c.get-in-Let.ensures refl c.in-Let.is in
    let s = let_shaped c.args.shapes.now c.args.term.now c.in-Let.a c.in-Let.b c.get-in-Let.result.now c.in-Let.b c.get-in-Let.ensures refl c.in-Let.is
    c.requires.shaped in
    (falls c.decreases (omega (arith, l)), (definition_shaped c.args.shapes.now c.get-in-Let.result.now c.in-Let.b s, c.requires.free))

pub outside-extents_under-requires-in-Let-clause-shaped : goal.outside-extents_under-requires-in-Let-clause-shaped
outside-extents_under-requires-in-Let-clause-shaped t c =
    let s = let_shaped c.args.shapes.now c.args.term.now c.in-Let.a c.in-Let.b c.get-in-Let-2.result.now c.in-Let.b c.get-in-Let-2.ensures refl c.in-Let.is
    c.requires.shaped in
    subst (λ sh. IsShaped sh c.get-in-Let-2.result.now) (sym c.in_ok-first-in-Let.ensures.shapes)
    (definition_shaped c.args.shapes.now c.get-in-Let-2.result.now c.in-Let.b s)

pub outside-second-requires : goal.outside-second-requires
outside-second-requires t c =
    let l = let_less c.args.term.now c.in-Let.a c.in-Let.b c.in-Let.a c.get-in-Let-3.result.now refl c.get-in-Let-3.ensures c.in-Let.is in
    let s = let_shaped c.args.shapes.now c.args.term.now c.in-Let.a c.in-Let.b c.in-Let.a c.get-in-Let-3.result.now refl c.get-in-Let-3.ensures c.in-Let.is
    c.requires.shaped in
    let e = (λ i. shape_of (sym c.get-in-Let-2.ensures i) (given (sym c.in_ok-first-in-Let.ensures.shapes i))) ∙ c.in_ok-extents-in-Let.ensures.shape in (
      falls c.decreases (omega (arith, l)),
      body_shaped c.args.shapes.now c.outside.new.shapes c.enter.new.shapes c.in-Let.a c.get-in-Let-3.result.now c.in_ok-extents-in-Let.extents s
          c.requires.free c.in_ok-first-in-Let.ensures.shapes e c.in_ok-extents-in-Let.ensures.free c.in_ok-enter-in-Let.ensures.entered,
    )

pub outside-outside-requires-in-Gen : goal.outside-outside-requires-in-Gen
outside-outside-requires-in-Gen t c = (
  falls c.decreases (one_less c.args.term.now c.in-Gen.e c.get-in-Gen.result.now c.get-in-Gen.ensures (inr c.in-Gen.is)),
  (one_shaped c.args.shapes.now c.args.term.now c.in-Gen.e c.get-in-Gen.result.now c.get-in-Gen.ensures (inr c.in-Gen.is) c.requires.shaped, c.requires.free),
)

pub outside-outside-requires-in-Add : goal.outside-outside-requires-in-Add
outside-outside-requires-in-Add t c =
    let o = two_of c.args.term.now c.in-Add.a c.in-Add.b c.in-Add.is in
    let l = two_less c.args.term.now c.in-Add.a c.in-Add.b c.get-in-Add.result.now c.in-Add.b c.get-in-Add.ensures refl o in (
      falls c.decreases (omega (arith, l)),
      (
        (two_shaped c.args.shapes.now c.args.term.now c.in-Add.a c.in-Add.b c.get-in-Add.result.now c.in-Add.b c.get-in-Add.ensures refl o c.requires.shaped).0,
        c.requires.free,
      ),
    )

pub outside-second-requires-in-Add : goal.outside-second-requires-in-Add
outside-second-requires-in-Add t c =
    let o = two_of c.args.term.now c.in-Add.a c.in-Add.b c.in-Add.is in
    let l = two_less c.args.term.now c.in-Add.a c.in-Add.b c.in-Add.a c.get-in-Add-2.result.now refl c.get-in-Add-2.ensures o in
    let e = sym c.in_ok-first-in-Add.ensures.shapes in
    let s = (two_shaped c.args.shapes.now c.args.term.now c.in-Add.a c.in-Add.b c.in-Add.a c.get-in-Add-2.result.now refl c.get-in-Add-2.ensures o
    c.requires.shaped).1 in (
      falls c.decreases (omega (arith, l)),
      (subst (λ sh. IsShaped sh c.get-in-Add-2.result.now) e s, subst (λ sh. all_free (given sh) ≡ true) e c.requires.free),
    )

pub outside-returns-in_ok-extents-in-Sub-clause-node : goal.outside-returns-in_ok-extents-in-Sub-clause-node
outside-returns-in_ok-extents-in-Sub-clause-node t c =
    let ts = given c.args.shapes.now in
    c.difference.ensures ∙ ap (λ (ns : Extents). first_node (unless (no_extents ns)) c.in_ok-words-in-Sub.words) c.as_slice.ensures
    ∙ sub-node ts c.args.term.now c.in-Sub.a c.in-Sub.field-1 c.in_ok-extents-in-Sub.extents c.in_ok-words-in-Sub.words c.in-Sub.is
    (c.in_ok-extents-in-Sub.ensures.extents ∙ ap (λ d. extents_under d ts) c.get.ensures) c.in_ok-words-in-Sub.ensures

pub outside-returns-in_ok-node-in-Let-clause-node : goal.outside-returns-in_ok-node-in-Let-clause-node
outside-returns-in_ok-node-in-Let-clause-node t c =
    let ts = given c.args.shapes.now in
    let u : given c.enter.new.shapes ≡ c.in_ok-extents-in-Let.extents ∷ given c.outside.new.shapes = ap given c.in_ok-enter-in-Let.ensures.entered in
    let n : c.in_ok-extents-in-Let.extents ≡ extents_under c.in-Let.a ts =
    c.in_ok-extents-in-Let.ensures.extents ∙ (λ i. extents_under (c.get-in-Let-2.ensures i) (given (c.in_ok-first-in-Let.ensures.shapes i))) in
    c.in_ok-node-in-Let.ensures.node
    ∙ let-node ts c.args.term.now c.in-Let.a c.in-Let.b c.get-in-Let.result.now c.get-in-Let-3.result.now c.in_ok-first-in-Let.first
    (given c.enter.new.shapes) c.in-Let.is c.get-in-Let.ensures c.get-in-Let-3.ensures
    c.in_ok-first-in-Let.ensures.node (u ∙ (λ i. n i ∷ given (c.in_ok-first-in-Let.ensures.shapes i)))

pub outside-returns-in-Index-clause-node : goal.outside-returns-in-Index-clause-node
outside-returns-in-Index-clause-node t c =
    subst (λ (n : Node). IfOk c.outside_word.result (λ o. o ≡ n))
    (word-index (given c.args.shapes.now) c.args.term.now c.in-Index.field-0 c.in-Index.field-1 c.in-Index.is) c.outside_word.ensures

pub outside-returns-in-Mul-clause-node : goal.outside-returns-in-Mul-clause-node
outside-returns-in-Mul-clause-node t c =
    subst (λ (n : Node). IfOk c.outside_word-in-Mul.result (λ o. o ≡ n))
    (word-mul (given c.args.shapes.now) c.args.term.now c.in-Mul.field-0 c.in-Mul.field-1 c.in-Mul.is) c.outside_word-in-Mul.ensures

pub outside-returns-in_ok-node-in-Gen-clause-node : goal.outside-returns-in_ok-node-in-Gen-clause-node
outside-returns-in_ok-node-in-Gen-clause-node t c =
    subst (λ (n : Node). IfOk c.in_child.result (λ o. o ≡ n))
    (ap (in_child 0) c.in_ok-node-in-Gen.ensures.node
    ∙ one_outside (given c.args.shapes.now) c.args.term.now c.in-Gen.e c.get-in-Gen.result.now c.get-in-Gen.ensures c.in-Gen.is)
    c.in_child.ensures

pub outside-returns-in_ok-first-in-Add-clause-node : goal.outside-returns-in_ok-first-in-Add-clause-node
outside-returns-in_ok-first-in-Add-clause-node t c =
    subst (λ (n : Node). IfOk c.second-in-Add.result (λ o. o ≡ n))
    (pair-node (given c.args.shapes.now) c.args.term.now c.in-Add.a c.in-Add.b c.get-in-Add.result.now c.get-in-Add-2.result.now c.in_ok-first-in-Add.first
    (given c.outside-in-Add.new.shapes) c.in-Add.is c.get-in-Add.ensures c.get-in-Add-2.ensures
    c.in_ok-first-in-Add.ensures.node (ap given c.in_ok-first-in-Add.ensures.shapes))
    c.second-in-Add.ensures.node
