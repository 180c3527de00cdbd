use Rattle.std.proofs.Common.{rules, ◌≡◌, ◌∙◌, arith, ◌≤◌, ◌^◌}
use Rattle.std.proofs.lemmas.Int.{to_z-of_z}
use Rattle.std.specs.Int.RustNames.{unsigned_abs}
use mir.Syntax.{w64, w128}
use mir.Val.{SFits}
use Rattle.affine_index.specs.Sum.{scaled}
use Rattle.linear_cert.proofs.LineLaws.{more-norm, times-norm}
use Rattle.linear_cert.proofs.given.added.Goals as goal

pub sum-requires : goal.sum-requires
sum-requires c =
    let h : unsigned_abs c.args.multiplier ≤ 2 ^ 63 = search rules in
    let wide : SFits w128 c.from.result = search rules in
    let z = to_z-of_z w128 c.from.result wide ∙ c.from.ensures ∙ to_z-of_z w64 c.args.multiplier c.ranges.multiplier in
    let p : c.in_ok-product.product ≡ scaled c.args.multiplier c.args.form = c.in_ok-product.ensures {u = tt} ∙ (λ k. scaled (z k) c.args.form) in
    omega (arith, times-norm c.args.multiplier c.args.form c.in_ok-product.product p h c.requires.small, c.requires.room)

pub returns-clause-norm : goal.returns-clause-norm
returns-clause-norm c =
    let h : unsigned_abs c.args.multiplier ≤ 2 ^ 63 = search rules in
    let wide : SFits w128 c.from.result = search rules in
    let z = to_z-of_z w128 c.from.result wide ∙ c.from.ensures ∙ to_z-of_z w64 c.args.multiplier c.ranges.multiplier in
    let p : c.in_ok-product.product ≡ scaled c.args.multiplier c.args.form = c.in_ok-product.ensures {u = tt} ∙ (λ k. scaled (z k) c.args.form) in
    more-norm c.args.total c.in_ok-product.product c.in_ok-more.more (c.in_ok-more.ensures {u = tt})
    (times-norm c.args.multiplier c.args.form c.in_ok-product.product p h c.requires.small)
