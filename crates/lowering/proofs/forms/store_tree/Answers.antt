use Rattle.std.proofs.Common.{◌≡◌, ◌∙◌, IfOk, ap, subst, sym}
use Rattle.affine_index.specs.declared.form.Items.{Items}
use Rattle.fact_list.specs.Facts.{binders}
use Rattle.index_trees.specs.Tree.{index_tree}
use Rattle.loop_lang.specs.declared.index.Iexp.{Iexp}
use Rattle.reindexer.specs.Limited.{Answers, Limited}
use Rattle.reindexer.specs.Places.{limited_place}
use Rattle.reindexer.specs.Ready.{frames_ready}
use Rattle.final_rules.specs.Places.{frames_of}
use Rattle.final_rules.specs.Printed.{behind}
use Rattle.lowering.proofs.FormLaws.{answered, ready-any, stored-place}
use Rattle.lowering.proofs.forms.store_tree.Goals as goal

pub stored_at-place-requires-clause-frames : goal.stored_at-place-requires-clause-frames
stored_at-place-requires-clause-frames c =
    ap frames_ready (c.as_slice-2.ensures ∙ c.in_ok-frames.ensures)
    ∙ ready-any (binders c.args.spot.now.path) 0 c.args.spot.now.around ∙ c.requires.around

pub returns : goal.returns
returns c =
    let tg = c.args.target.now in
    let q = c.args.spot.now in
    let x = c.in_ok-place.place in
    let frames = c.as_slice-2.ensures ∙ c.in_ok-frames.ensures in
    let due = subst (λ (l : Limited Items). Answers l c.stored_at-place.result)
    (λ i. behind tg.offset (limited_place (frames i) (c.as_slice.ensures i))) c.stored_at-place.ensures in
    let place = stored-place tg q x
    (answered (behind tg.offset (limited_place (frames_of q) tg.extents)) c.stored_at-place.result x due c.in_ok-place.ensures) in
    let loops = c.binders-loops.ensures.count ∙ ap binders c.as_slice-3.ensures in
    subst (λ (u : Iexp). IfOk c.index_tree.result (λ t. t ≡ u)) (λ i. index_tree (loops i) (sym place i)) c.index_tree.ensures.tree
