use Rattle.std.proofs.Common.{◌∙◌, ap}
use Rattle.std.specs.Prelude.{negsuc}
use Rattle.affine_index.specs.Sum.{scaled, sum_of}
use Rattle.path_focus.proofs.MakingLaws.{minus-room, rest-ordered, rest-room, taken-room}
use Rattle.path_focus.proofs.forms.rest_below.Goals as goal

pub sum-requires : goal.sum-requires
sum-requires c =
    taken-room c.args.x.now c.in_ok-one.one c.in_ok-index.index c.in_ok-next.next c.in_ok-index.ensures.same c.in_ok-next.ensures.same
    c.copied.ensures.normal
    c.copied-2.ensures.normal

pub scaled-requires : goal.scaled-requires
scaled-requires c =
    minus-room c.args.x.now c.in_ok-one.one c.in_ok-taken.taken
    (c.in_ok-taken.ensures {u = tt} ∙ (λ k. sum_of (c.in_ok-index.ensures.same k)
    (c.in_ok-next.ensures.same k))) c.copied.ensures.normal c.copied-2.ensures.normal

pub sum-requires-2 : goal.sum-requires-2
sum-requires-2 c =
    rest-room c.args.n.now c.args.x.now c.in_ok-one.one c.in_ok-rows.rows c.in_ok-minus.minus c.in_ok-rows.ensures.same
    (c.in_ok-minus.ensures {u = tt} ∙ ap (scaled (negsuc 0))
    (c.in_ok-taken.ensures {u = tt} ∙ (λ k. sum_of (c.in_ok-index.ensures.same k) (c.in_ok-next.ensures.same k))))
    c.copied-3.ensures.normal c.copied.ensures.normal c.copied-2.ensures.normal

pub within_limits-requires : goal.within_limits-requires
within_limits-requires c =
    rest-ordered c.args.n.now c.args.x.now c.in_ok-one.one c.in_ok-total.total
    (c.in_ok-total.ensures {u = tt} ∙ (λ k. sum_of (c.in_ok-rows.ensures.same k)
    ((c.in_ok-minus.ensures {u = tt} ∙ ap (scaled (negsuc 0))
    (c.in_ok-taken.ensures {u = tt} ∙ (λ j. sum_of (c.in_ok-index.ensures.same j) (c.in_ok-next.ensures.same j)))) k)))
    c.copied-3.ensures.normal c.copied.ensures.normal c.copied-2.ensures.normal
