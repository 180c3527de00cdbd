use Rattle.std.proofs.Common.{◌≡◌, IfOk, subst, sym}
use Rattle.affine_index.specs.declared.form.Items.{Items}
use Rattle.index_trees.specs.Tree.{index_tree}
use Rattle.reindexer.specs.Limited.{Answers}
use Rattle.final_rules.specs.Printing.{sited}
use Rattle.lowering.proofs.FormLaws.{answered, read-place}
use Rattle.lowering.proofs.forms.read_tree.Goals as goal

pub returns : goal.returns
returns c =
    let sc = c.args.scene.now in
    let d = c.args.read.now in
    let x = c.in_ok-place.place in
    let due = subst (λ xs. Answers (sited sc d.var xs) c.sited-place.result) c.as_slice.ensures c.sited-place.ensures in
    let place = read-place sc d x (answered (sited sc d.var d.indices) c.sited-place.result x due c.in_ok-place.ensures) in
    subst (λ (y : Items). IfOk c.index_tree.result (λ t. t ≡ index_tree c.args.loops y)) (sym place) c.index_tree.ensures.tree
