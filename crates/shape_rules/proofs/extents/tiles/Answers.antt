use Rattle.std.proofs.Common.{◌∙◌}
use Rattle.affine_index.specs.Sum.{sum_of}
use Rattle.affine_index.proofs.ArithmeticLaws.{sum-room}
use Rattle.shape_rules.proofs.TileLaws.{tiles-ordered, tiles-room}
use Rattle.shape_rules.proofs.extents.tiles.Goals as goal

pub sum-requires : goal.sum-requires
sum-requires c =
    sum-room c.args.n.now c.in_ok-more.more c.in_ok-a.a c.in_ok-b.b c.in_ok-a.ensures.same c.in_ok-b.ensures.same c.copied.ensures.normal
    c.copied-2.ensures.normal

pub quotient-requires-clause-room : goal.quotient-requires-clause-room
quotient-requires-clause-room c =
    tiles-room c.args.n.now c.in_ok-more.more c.in_ok-total.total
    (c.in_ok-total.ensures {u = tt} ∙ (λ k. sum_of (c.in_ok-a.ensures.same k) (c.in_ok-b.ensures.same k))) c.copied.ensures.normal c.copied-2.ensures.normal

pub within_limits-requires : goal.within_limits-requires
within_limits-requires c =
    tiles-ordered c.args.k c.args.n.now c.in_ok-more.more c.in_ok-total.total c.in_ok-chunks.chunks
    (c.in_ok-total.ensures {u = tt} ∙ (λ k. sum_of (c.in_ok-a.ensures.same k) (c.in_ok-b.ensures.same k)))
    (c.in_ok-chunks.ensures {u = tt}) c.requires.positive c.requires.limit c.copied.ensures.normal c.copied-2.ensures.normal
