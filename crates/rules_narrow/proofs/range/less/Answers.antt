use Rattle.std.proofs.Common.{◌∙◌, ap}
use Rattle.std.specs.Prelude.{negsuc}
use Rattle.affine_index.specs.Sum.{scaled, sum_of}
use Rattle.path_focus.proofs.MakingLaws.{minus-room}
use Rattle.rules_narrow.proofs.RangeForms.{less_ordered, less_room}
use Rattle.rules_narrow.proofs.range.less.Goals as goal

pub scaled-requires : goal.scaled-requires
scaled-requires c =
    minus-room c.args.a.now c.args.b.now c.in_ok-taken.taken c.in_ok-taken.ensures.form c.total.ensures.normal.0 c.total.ensures.normal.1

pub sum-requires : goal.sum-requires
sum-requires c =
    less_room c.args.a.now c.args.b.now c.total.ensures.normal.0 c.total.ensures.normal.1 c.args.whole c.in_ok-minus.minus c.requires.small
    (c.in_ok-minus.ensures {u = tt} ∙ ap (scaled (negsuc 0)) c.in_ok-taken.ensures.form)

pub within_limits-requires : goal.within_limits-requires
within_limits-requires c =
    less_ordered c.args.a.now c.args.b.now c.total.ensures.normal.0 c.total.ensures.normal.1 c.args.whole c.in_ok-rest.rest c.requires.ordered
    (c.in_ok-rest.ensures {u = tt} ∙ ap (sum_of c.args.whole) (c.in_ok-minus.ensures {u = tt} ∙ ap (scaled (negsuc 0)) c.in_ok-taken.ensures.form))
