use Rattle.path_focus.specs.Making.{rest_below}
use Rattle.rules_loop.specs.Tilings.{in_tiles, tile_place}
use Rattle.rules_shape_gen.proofs.tiles.guarded.Goals as goal

pub returns : goal.returns
returns c =
    c.guard_with.ensures (rest_below c.args.n.now (tile_place c.args.k)) (in_tiles c.args.k c.args.body.now) (c.in_ok-until.ensures {u = tt})
    (c.in_ok-body.ensures {u = tt})
