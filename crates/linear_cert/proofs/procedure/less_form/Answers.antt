use Rattle.std.proofs.Common.{rules, ◌∙◌, ap, arith}
use Rattle.std.proofs.lemmas.Int.{to_z-of_z}
use mir.Syntax.{w64, w128}
use mir.Val.{SFits}
use Rattle.affine_index.specs.Wide.{norm}
use Rattle.affine_index.proofs.NormLaws.{scaled-norm}
use Rattle.affine_index.proofs.PutNorm.{normal-norm}
use Rattle.std.specs.Prelude.{negsuc}
use Rattle.linear_cert.proofs.ProcedureLaws.{once-small, taken-once}
use Rattle.linear_cert.proofs.procedure.less_form.Goals as goal

pub scaled-requires : goal.scaled-requires
scaled-requires c =
    let wide : SFits w128 c.from.result = search rules in
    let z = to_z-of_z w128 c.from.result wide ∙ c.from.ensures ∙ to_z-of_z w64 c.args.times c.ranges.times in
    omega (
      arith,
      once-small _ c.args.times (norm c.in_ok-copied.field-0) z c.requires
          (omega (arith, ap norm c.in_ok-copied.ensures.same, normal-norm c.args.form.now c.in_ok-copied.ensures.normal)),
    )

pub scaled-requires-2 : goal.scaled-requires-2
scaled-requires-2 c =
    let wide : SFits w128 c.from.result = search rules in
    let z = to_z-of_z w128 c.from.result wide ∙ c.from.ensures ∙ to_z-of_z w64 c.args.times c.ranges.times in
    omega (
      arith,
      taken-once _ c.args.times c.args.form.now c.in_ok-copied.field-0 c.in_ok-taken.taken z c.requires c.in_ok-copied.ensures.same
          c.in_ok-copied.ensures.normal (c.in_ok-taken.ensures {u = tt}),
    )

pub sum-requires : goal.sum-requires
sum-requires c =
    let wide : SFits w128 c.from.result = search rules in
    let z = to_z-of_z w128 c.from.result wide ∙ c.from.ensures ∙ to_z-of_z w64 c.args.times c.ranges.times in
    let taken = taken-once _ c.args.times c.args.form.now c.in_ok-copied.field-0 c.in_ok-taken.taken z c.requires c.in_ok-copied.ensures.same
    c.in_ok-copied.ensures.normal (c.in_ok-taken.ensures {u = tt}) in
    omega (
      arith,
      taken,
      ap norm (c.in_ok-minus.ensures {u = tt}),
      scaled-norm (negsuc 0) c.in_ok-taken.taken,
      ap norm c.in_ok-whole.ensures.same,
      normal-norm c.args.goal.now c.in_ok-whole.ensures.normal,
    )
