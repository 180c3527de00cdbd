use Rattle.std.proofs.Common.{rules, arith, ◌≡◌, ◌+◌, ◌<◌, ◌++◌, drop, length, subst, sym, IfOk, OnOk}
use Rattle.fact_list.specs.Facts.{binders}
use Rattle.term_tree.specs.Shape.{Extents}
use Rattle.index_trees.specs.Tree.{index_tree}
use Rattle.final_rules.specs.Form.{one_deeper}
use Rattle.final_rules.specs.Places.{one_gen}
use Rattle.lowering.specs.Leaves.{full_read_in}
use Rattle.lowering.proofs.LeafLaws.{rest_at}
use Rattle.lowering.proofs.leaf.+full_read.Goals as goal

pub full_read-returns : goal.full_read-returns
full_read-returns t c =
    let ns = c.args.extents.now in
    let q = c.args.spot.now in
    let n = c.index-extents-from.result in
    let less : c.args.from < length ns = omega (arith, c.if-from-extents.false) in
    let rest = rest_at ns c.args.from n c.index-extents-from.is less in
    let bound : IfOk c.index_tree.result (λ t. t ≡ index_tree (binders q.path) n) = search rules in
    subst (λ (ms : Extents). OnOk c.looped.result
    (c.looped.new.all ≡ c.args.all.now ++ full_read_in c.args.scene.now c.args.target.now c.args.adds q ms c.args.read.now)) (sym rest)
    (c.looped.ensures (index_tree (binders q.path) n)
    (full_read_in c.args.scene.now c.args.target.now c.args.adds (one_gen n q) (drop (c.args.from + 1) ns) (one_deeper c.args.read.now)) bound
    c.inside.ensures)
