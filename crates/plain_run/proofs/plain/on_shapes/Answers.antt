use Rattle.std.proofs.Common.{◌≡◌, ◌∙◌, Global, List, ℕ, ap, map, subst, sym}
use Rattle.term_tree.specs.Modules.{AreInputs}
use Rattle.term_tree.specs.Tensors.{Tensor}
use Rattle.shape_rules.specs.Meant.{input_extents}
use Rattle.atl_meaning.specs.Values.{meant}
use Rattle.atl_meaning.specs.Words.{module_big}
use Rattle.plain_run.specs.PlainRun.{Answers, unless_big, unless_wrong, within_turns}
use Rattle.plain_run.specs.Shapes.{capped_count, tensors_of, wrong_count}
use Rattle.plain_run.proofs.InputLaws.{are-inputs}
use Rattle.plain_run.proofs.PlainLaws.{answer-shapes}
use Rattle.plain_run.proofs.plain.on_shapes.Goals as goal

pub counted-requires-clause-inputs : goal.counted-requires-clause-inputs
counted-requires-clause-inputs c =
    let m = c.args.module.now in
    let g = c.args.given.now in
    let made : map meant c.as_slice-in-Ok-2.result.now ≡ tensors_of (input_extents m g.sizes) g.inputs =
    ap (map meant) c.as_slice-in-Ok-2.ensures ∙ c.in-Ok.ensures ∙ (λ i. tensors_of (c.requires.shapes i) (c.as_slice-2.ensures i)) in
    subst (λ (s : List ℕ). AreInputs m.inputs s (map meant c.as_slice-in-Ok-2.result.now)) (sym c.as_slice-in-Ok.ensures)
    (subst (λ (ts : List Tensor). AreInputs m.inputs g.sizes ts) (sym made) (are-inputs m.inputs g.sizes g.inputs c.requires.inputs c.requires.words))

pub returns-in-Ok : goal.returns-in-Ok
returns-in-Ok c =
    let m = c.args.module.now in
    let g = c.args.given.now in
    let wrong = c.wrong_count-wrong.result in
    let ts = map meant c.as_slice-in-Ok-2.result.now in
    let made : ts ≡ tensors_of c.args.shapes.now g.inputs =
    ap (map meant) c.as_slice-in-Ok-2.ensures ∙ c.in-Ok.ensures ∙ ap (tensors_of c.args.shapes.now) c.as_slice-2.ensures in
    let counts = c.wrong_count-wrong.ensures ∙ ap (wrong_count 0 (map capped_count c.args.shapes.now)) c.as_slice.ensures in
    answer-shapes Global m g.sizes g c.args.shapes.now wrong ts c.counted.result c.requires.shapes c.requires.small counts made
    (subst (λ (s : List ℕ). Answers (unless_big (module_big m s) (unless_wrong wrong (within_turns m s ts))) c.counted.result) c.as_slice-in-Ok.ensures
    c.counted.ensures)
