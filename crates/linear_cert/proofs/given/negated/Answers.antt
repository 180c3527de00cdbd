use Rattle.std.proofs.Common.{◌∙◌, ap}
use Rattle.std.specs.Prelude.{negsuc}
use Rattle.affine_index.specs.Sum.{scaled, sum_of}
use Rattle.linear_cert.proofs.LineLaws.{minus-room, negated-norm, negated-room}
use Rattle.linear_cert.proofs.given.negated.Goals as goal

pub scaled-requires : goal.scaled-requires
scaled-requires c = minus-room c.args.goal.now c.in_ok-form.form c.in_ok-form.ensures.same c.in_ok-form.ensures.normal

pub sum-requires : goal.sum-requires
sum-requires c = negated-room c.args.goal.now c.in_ok-one.one c.in_ok-minus.minus (c.in_ok-one.ensures {u = tt})
    (c.in_ok-minus.ensures {u = tt} ∙ ap (scaled (negsuc 0)) c.in_ok-form.ensures.same) c.in_ok-form.ensures.normal

pub returns-clause-small : goal.returns-clause-small
returns-clause-small c = negated-norm c.args.goal.now c.in_ok-sum.field-0
    (c.in_ok-sum.ensures {u = tt}
    ∙ (λ k. sum_of (c.in_ok-one.ensures {u = tt} k) ((c.in_ok-minus.ensures {u = tt} ∙ ap (scaled (negsuc 0)) c.in_ok-form.ensures.same) k)))
    c.in_ok-form.ensures.normal
