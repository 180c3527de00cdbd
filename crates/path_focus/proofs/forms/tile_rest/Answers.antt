use Rattle.std.proofs.Common.{rules, ◌≡◌, ◌∙◌, ap, sym, subst, ◌*◌, ◌<◌, ◌^◌}
use Rattle.std.proofs.lemmas.Int.{to_z-of_z}
use Rattle.std.specs.Prelude.{ℤ, negsuc, pos}
use Rattle.std.specs.Int.RustNames.{unsigned_abs}
use mir.Syntax.{w128}
use mir.Val.{SFits}
use Rattle.affine_index.specs.Quotient.{quotient_of}
use Rattle.affine_index.specs.Sum.{scaled, sum_of}
use Rattle.affine_index.specs.Wide.{norm}
use Rattle.path_focus.proofs.MakingLaws.{last-room, minus-one-room, rows-room, taken-room, tile_rest-ordered, tiles-room}
use Rattle.path_focus.proofs.forms.tile_rest.Goals as goal

pub sum-requires : goal.sum-requires
sum-requires c =
    taken-room c.args.n.now c.in_ok-more.more c.in_ok-a.a c.in_ok-b.b c.in_ok-a.ensures.same c.in_ok-b.ensures.same c.copied.ensures.normal
    c.copied-2.ensures.normal

pub quotient-requires-clause-room : goal.quotient-requires-clause-room
quotient-requires-clause-room c =
    last-room c.args.k c.requires.positive c.requires.limit c.args.n.now c.in_ok-more.more c.copied.ensures.normal c.copied-2.ensures.normal
    c.in_ok-last.last
    (c.in_ok-last.ensures {u = tt} ∙ (λ i. sum_of (c.in_ok-a.ensures.same i) (c.in_ok-b.ensures.same i)))

pub scaled-requires : goal.scaled-requires
scaled-requires c =
    let wide : SFits w128 c.from-2.result = search rules in
    let z = to_z-of_z w128 c.from-2.result wide ∙ c.from-2.ensures in
    let last : c.in_ok-last.last ≡ sum_of c.args.n.now c.in_ok-more.more =
    c.in_ok-last.ensures {u = tt} ∙ (λ i. sum_of (c.in_ok-a.ensures.same i) (c.in_ok-b.ensures.same i)) in
    let tiles : c.in_ok-tiles.tiles ≡ quotient_of (sum_of c.args.n.now c.in_ok-more.more) c.args.k =
    c.in_ok-tiles.ensures {u = tt} ∙ ap (λ x. quotient_of x c.args.k) last in
    let fits : ℤ → Type 0 = λ x. unsigned_abs x * norm c.in_ok-tiles.tiles < 2 ^ 127 in
    subst fits (sym z) (tiles-room c.args.k c.requires.positive c.requires.limit c.args.n.now c.in_ok-more.more c.copied.ensures.normal
    c.copied-2.ensures.normal c.in_ok-tiles.tiles tiles)

pub scaled-requires-2 : goal.scaled-requires-2
scaled-requires-2 c = minus-one-room c.args.n.now c.in_ok-c.c c.in_ok-c.ensures.same c.copied-3.ensures.normal

pub sum-requires-2 : goal.sum-requires-2
sum-requires-2 c =
    let wide : SFits w128 c.from-2.result = search rules in
    let z = to_z-of_z w128 c.from-2.result wide ∙ c.from-2.ensures in
    let last : c.in_ok-last.last ≡ sum_of c.args.n.now c.in_ok-more.more =
    c.in_ok-last.ensures {u = tt} ∙ (λ i. sum_of (c.in_ok-a.ensures.same i) (c.in_ok-b.ensures.same i)) in
    let tiles : c.in_ok-tiles.tiles ≡ quotient_of (sum_of c.args.n.now c.in_ok-more.more) c.args.k =
    c.in_ok-tiles.ensures {u = tt} ∙ ap (λ x. quotient_of x c.args.k) last in
    let rows : c.in_ok-rows.rows ≡ scaled (pos c.args.k) (quotient_of (sum_of c.args.n.now c.in_ok-more.more) c.args.k) =
    c.in_ok-rows.ensures {u = tt} ∙ (λ i. scaled (z i) (tiles i)) in
    let minus : c.in_ok-minus.minus ≡ scaled (negsuc 0) c.args.n.now = c.in_ok-minus.ensures {u = tt} ∙ ap (scaled (negsuc 0)) c.in_ok-c.ensures.same in
    rows-room c.args.k c.requires.positive c.requires.limit c.args.n.now c.in_ok-more.more c.copied.ensures.normal c.copied-2.ensures.normal
    c.in_ok-rows.rows c.in_ok-minus.minus rows minus

pub within_limits-requires : goal.within_limits-requires
within_limits-requires c =
    let wide : SFits w128 c.from-2.result = search rules in
    let z = to_z-of_z w128 c.from-2.result wide ∙ c.from-2.ensures in
    let last : c.in_ok-last.last ≡ sum_of c.args.n.now c.in_ok-more.more =
    c.in_ok-last.ensures {u = tt} ∙ (λ i. sum_of (c.in_ok-a.ensures.same i) (c.in_ok-b.ensures.same i)) in
    let tiles : c.in_ok-tiles.tiles ≡ quotient_of (sum_of c.args.n.now c.in_ok-more.more) c.args.k =
    c.in_ok-tiles.ensures {u = tt} ∙ ap (λ x. quotient_of x c.args.k) last in
    let rows : c.in_ok-rows.rows ≡ scaled (pos c.args.k) (quotient_of (sum_of c.args.n.now c.in_ok-more.more) c.args.k) =
    c.in_ok-rows.ensures {u = tt} ∙ (λ i. scaled (z i) (tiles i)) in
    let minus : c.in_ok-minus.minus ≡ scaled (negsuc 0) c.args.n.now = c.in_ok-minus.ensures {u = tt} ∙ ap (scaled (negsuc 0)) c.in_ok-c.ensures.same in
    tile_rest-ordered c.args.k c.requires.positive c.requires.limit c.args.n.now c.in_ok-more.more c.copied.ensures.normal c.copied-2.ensures.normal
    c.in_ok-rest.rest (c.in_ok-rest.ensures {u = tt} ∙ (λ i. sum_of (rows i) (minus i)))
