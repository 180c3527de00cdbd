use Rattle.std.proofs.Common.{rules, ◌∙◌, ap, refl, arith}
use Rattle.std.specs.Prelude.{pos}
use Rattle.std.proofs.lemmas.Int.{to_z-of_z}
use mir.Syntax.{w128}
use mir.Val.{SFits}
use Rattle.affine_index.specs.Wide.{norm}
use Rattle.affine_index.proofs.PutNorm.{normal-norm}
use Rattle.linear_cert.proofs.AttemptLaws.{minus-small, taken-small, times-small, whole-small}
use Rattle.linear_cert.proofs.attempt.less.Goals as goal

pub scaled-requires : goal.scaled-requires
scaled-requires c =
    let wide : SFits w128 c.from.result = search rules in
    let z = to_z-of_z w128 c.from.result wide ∙ c.from.ensures in
    omega (
      arith,
      times-small _ c.args.amount (norm c.in_ok-copied.field-0) z c.requires.small
          (omega (arith, ap norm c.in_ok-copied.ensures.same, normal-norm c.args.form.now c.in_ok-copied.ensures.normal)),
    )

pub scaled-requires-2 : goal.scaled-requires-2
scaled-requires-2 c =
    let wide : SFits w128 c.from.result = search rules in
    let z = to_z-of_z w128 c.from.result wide ∙ c.from.ensures in
    omega (
      arith,
      taken-small _ c.args.amount c.args.form.now c.in_ok-copied.field-0 c.in_ok-taken.taken z c.requires.small c.in_ok-copied.ensures.same
          c.in_ok-copied.ensures.normal (c.in_ok-taken.ensures {u = tt}),
    )

pub sum-requires : goal.sum-requires
sum-requires c =
    let wide : SFits w128 c.from.result = search rules in
    let z = to_z-of_z w128 c.from.result wide ∙ c.from.ensures in
    let taken = taken-small _ c.args.amount c.args.form.now c.in_ok-copied.field-0 c.in_ok-taken.taken z c.requires.small c.in_ok-copied.ensures.same
    c.in_ok-copied.ensures.normal (c.in_ok-taken.ensures {u = tt}) in
    omega (
      arith,
      whole-small (pos c.args.by) c.args.by c.args.left c.in_ok-whole.whole refl c.requires.room (c.in_ok-whole.ensures {u = tt}),
      minus-small c.in_ok-taken.taken c.in_ok-minus.minus taken (c.in_ok-minus.ensures {u = tt}),
    )
