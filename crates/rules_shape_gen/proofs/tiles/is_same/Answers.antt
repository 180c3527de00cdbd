use Rattle.rules_loop.proofs.PatternLaws.{same_is}
use Rattle.rules_shape_gen.proofs.tiles.is_same.Goals as goal

pub returns : goal.returns
returns c = same_is c.same.result c.args.x.now c.args.y.now c.same.ensures
