use Rattle.std.proofs.Common.{[], ◌∷◌}
use Rattle.affine_index.specs.Sum.{difference_of}
use Rattle.binders.specs.Maps.{mapped}
use Rattle.binders.specs.PlainMaps.{put_index_map}
use Rattle.term_tree.specs.Syntax.{sum}
use Rattle.rules_loop.proofs.cuts.sum_parts.Goals as goal

pub returns : goal.returns
returns c =
    let raw = mapped (put_index_map (c.args.index ∷ []) 1) 0 0 c.args.body.now in
    c.beside_sum.ensures (sum (difference_of c.args.n.now c.args.x.now) raw) (c.in_ok-rest.ensures {u = tt} raw (c.in_ok-moved.ensures {u = tt}))
