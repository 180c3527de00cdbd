use Rattle.std.proofs.Common.{rules, ◌≡◌, ◌∙◌, ap, sym, subst, ℕ, ◌*◌, ◌<◌, ◌^◌, List}
use Rattle.std.proofs.lemmas.Int.{to_z-of_z}
use Rattle.std.specs.Prelude.{ℤ, pos, negsuc}
use Rattle.std.specs.Int.{int_rem_euclid}
use Rattle.std.specs.Int.RustNames.{unsigned_abs}
use mir.Syntax.{w128}
use mir.Val.{SFits}
use Rattle.affine_index.proofs.ArithmeticLaws.{one-room, op_value}
use Rattle.affine_index.proofs.RemainderLaws.{floor-room, minus-room, remainder-ordered, value-remainder, whole-room}
use Rattle.affine_index.specs.Quotient.{quotient_of, remainder_of}
use Rattle.affine_index.specs.Sum.{scaled, sum_of}
use Rattle.affine_index.specs.Value.{items_value}
use Rattle.affine_index.specs.Wide.{norm}
use Rattle.affine_index.proofs.aff.Aff.rem.Goals as goal

pub quotient-requires-clause-room : goal.quotient-requires-clause-room
quotient-requires-clause-room c = one-room c.args.self.now c.in_ok-copied.field-0 c.in_ok-copied.ensures.same c.copied-2.ensures.normal

pub scaled-requires : goal.scaled-requires
scaled-requires c =
    let k = c.args.divisor in
    let i = c.args.self.now in
    let wide : SFits w128 c.from.result = search rules in
    let z = to_z-of_z w128 c.from.result wide ∙ c.from.ensures in
    let floor : c.in_ok-floor.floor ≡ quotient_of i k = c.in_ok-floor.ensures {u = tt} ∙ ap (λ j. quotient_of j k) c.in_ok-copied.ensures.same in
    let fits : ℤ → Type 0 = λ x. unsigned_abs x * norm c.in_ok-floor.floor < 2 ^ 127 in
    subst fits (sym z) (floor-room i k c.copied.ensures.normal c.requires.positive c.requires.limit c.in_ok-floor.floor floor)

pub scaled-requires-2 : goal.scaled-requires-2
scaled-requires-2 c =
    let k = c.args.divisor in
    let i = c.args.self.now in
    let wide : SFits w128 c.from.result = search rules in
    let z = to_z-of_z w128 c.from.result wide ∙ c.from.ensures in
    let floor : c.in_ok-floor.floor ≡ quotient_of i k = c.in_ok-floor.ensures {u = tt} ∙ ap (λ j. quotient_of j k) c.in_ok-copied.ensures.same in
    let whole : c.in_ok-whole.whole ≡ scaled (pos k) (quotient_of i k) = c.in_ok-whole.ensures {u = tt} ∙ (λ j. scaled (z j) (floor j)) in
    whole-room i k c.copied.ensures.normal c.requires.positive c.requires.limit c.in_ok-whole.whole whole

pub sum-requires : goal.sum-requires
sum-requires c =
    let k = c.args.divisor in
    let i = c.args.self.now in
    let wide : SFits w128 c.from.result = search rules in
    let z = to_z-of_z w128 c.from.result wide ∙ c.from.ensures in
    let floor : c.in_ok-floor.floor ≡ quotient_of i k = c.in_ok-floor.ensures {u = tt} ∙ ap (λ j. quotient_of j k) c.in_ok-copied.ensures.same in
    let whole : c.in_ok-whole.whole ≡ scaled (pos k) (quotient_of i k) = c.in_ok-whole.ensures {u = tt} ∙ (λ j. scaled (z j) (floor j)) in
    let minus : c.in_ok-minus.minus ≡ scaled (negsuc 0) (scaled (pos k) (quotient_of i k)) = c.in_ok-minus.ensures {u = tt} ∙ ap (scaled (negsuc 0)) whole in
    minus-room i k c.copied.ensures.normal c.requires.positive c.requires.limit c.in_ok-form.form c.in_ok-minus.minus c.in_ok-form.ensures.same minus

pub within_limits-requires : goal.within_limits-requires
within_limits-requires c =
    let k = c.args.divisor in
    let i = c.args.self.now in
    let wide : SFits w128 c.from.result = search rules in
    let z = to_z-of_z w128 c.from.result wide ∙ c.from.ensures in
    let floor : c.in_ok-floor.floor ≡ quotient_of i k = c.in_ok-floor.ensures {u = tt} ∙ ap (λ j. quotient_of j k) c.in_ok-copied.ensures.same in
    let whole : c.in_ok-whole.whole ≡ scaled (pos k) (quotient_of i k) = c.in_ok-whole.ensures {u = tt} ∙ (λ j. scaled (z j) (floor j)) in
    let minus : c.in_ok-minus.minus ≡ scaled (negsuc 0) (scaled (pos k) (quotient_of i k)) = c.in_ok-minus.ensures {u = tt} ∙ ap (scaled (negsuc 0)) whole in
    let rest : c.in_ok-rest.rest ≡ remainder_of i k = c.in_ok-rest.ensures {u = tt} ∙ (λ j. sum_of (c.in_ok-form.ensures.same j) (minus j)) in
    remainder-ordered i k c.copied.ensures.normal c.requires.positive c.requires.limit c.in_ok-rest.rest rest

pub returns-clause-value : goal.returns-clause-value
returns-clause-value c =
    let k = c.args.divisor in
    let i = c.args.self.now in
    let wide : SFits w128 c.from.result = search rules in
    let z = to_z-of_z w128 c.from.result wide ∙ c.from.ensures in
    let floor : c.in_ok-floor.floor ≡ quotient_of i k = c.in_ok-floor.ensures {u = tt} ∙ ap (λ j. quotient_of j k) c.in_ok-copied.ensures.same in
    let whole : c.in_ok-whole.whole ≡ scaled (pos k) (quotient_of i k) = c.in_ok-whole.ensures {u = tt} ∙ (λ j. scaled (z j) (floor j)) in
    let minus : c.in_ok-minus.minus ≡ scaled (negsuc 0) (scaled (pos k) (quotient_of i k)) = c.in_ok-minus.ensures {u = tt} ∙ ap (scaled (negsuc 0)) whole in
    let rest : c.in_ok-rest.rest ≡ remainder_of i k = c.in_ok-rest.ensures {u = tt} ∙ (λ j. sum_of (c.in_ok-form.ensures.same j) (minus j)) in
    op_value (λ r. (s v : List ℕ) → items_value s v r ≡ int_rem_euclid (items_value s v i) (pos k)) c.within_limits.result c.in_ok-rest.rest (remainder_of i k)
    rest (λ s v. value-remainder s v i k c.requires.positive) c.within_limits.ensures
