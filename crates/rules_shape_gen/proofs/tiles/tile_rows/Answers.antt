use Rattle.std.specs.Prelude.{pos}
use Rattle.affine_index.specs.Form.{literal_form}
use Rattle.rules_loop.specs.Tilings.{guarded}
use Rattle.term_tree.specs.Shape.{tiles}
use Rattle.term_tree.specs.Syntax.{gen}
use Rattle.rules_shape_gen.proofs.tiles.tile_rows.Goals as goal

pub returns : goal.returns
returns c =
    let k = c.args.k in
    let n = c.args.n.now in
    let body = guarded k n c.args.body.now in
    let width = literal_form (pos k) in
    c.gen_with-2.ensures (tiles k n) (gen width body) (c.in_ok-count.ensures {u = tt} (tiles k n) c.tiles.ensures)
    (c.in_ok-rows.ensures {u = tt} width body (c.in_ok-width.ensures {u = tt}) (c.in_ok-body.ensures {u = tt}))
