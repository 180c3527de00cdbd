use Rattle.std.proofs.Common.{rules, ◌≡◌, ◌∙◌, sym, subst, ◌*◌, ◌<◌, ◌≤◌, ◌^◌}
use Rattle.std.proofs.lemmas.Int.{to_z-of_z}
use Rattle.std.specs.Prelude.{ℤ, pos}
use Rattle.std.specs.Int.RustNames.{unsigned_abs}
use mir.Syntax.{w128}
use mir.Val.{SFits}
use Rattle.affine_index.specs.Sum.{scaled, sum_of}
use Rattle.affine_index.specs.Wide.{norm}
use Rattle.path_focus.proofs.MakingLaws.{begun-room, in_tile-ordered, in_tile-room}
use Rattle.path_focus.proofs.forms.in_tile.Goals as goal

pub scaled-requires : goal.scaled-requires
scaled-requires c =
    let wide : SFits w128 c.from.result = search rules in
    let z = to_z-of_z w128 c.from.result wide ∙ c.from.ensures in
    let small : c.args.k ≤ 4294967295 = search rules in
    let fits : ℤ → Type 0 = λ x. unsigned_abs x * norm c.in_ok-tile.tile < 2 ^ 127 in
    subst fits (sym z) (begun-room c.args.k c.args.p.now c.in_ok-tile.tile small c.in_ok-tile.ensures.same c.copied.ensures.normal)

pub sum-requires : goal.sum-requires
sum-requires c =
    let wide : SFits w128 c.from.result = search rules in
    let z = to_z-of_z w128 c.from.result wide ∙ c.from.ensures in
    let small : c.args.k ≤ 4294967295 = search rules in
    let begun : c.in_ok-begun.begun ≡ scaled (pos c.args.k) c.args.p.now =
    c.in_ok-begun.ensures {u = tt} ∙ (λ i. scaled (z i) (c.in_ok-tile.ensures.same i)) in
    in_tile-room c.args.k c.args.p.now c.args.q.now c.in_ok-begun.begun c.in_ok-inside.inside small begun c.in_ok-inside.ensures.same
    c.copied.ensures.normal
    c.copied-2.ensures.normal

pub within_limits-requires : goal.within_limits-requires
within_limits-requires c =
    let wide : SFits w128 c.from.result = search rules in
    let z = to_z-of_z w128 c.from.result wide ∙ c.from.ensures in
    let begun : c.in_ok-begun.begun ≡ scaled (pos c.args.k) c.args.p.now =
    c.in_ok-begun.ensures {u = tt} ∙ (λ i. scaled (z i) (c.in_ok-tile.ensures.same i)) in
    in_tile-ordered c.args.k c.args.p.now c.args.q.now c.in_ok-total.total
    (c.in_ok-total.ensures {u = tt} ∙ (λ i. sum_of (begun i) (c.in_ok-inside.ensures.same i))) c.copied.ensures.normal c.copied-2.ensures.normal
