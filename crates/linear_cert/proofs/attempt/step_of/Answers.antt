use Rattle.std.proofs.Common.{rules, ◌≡◌, ◌∙◌, ◌*◌, ◌/◌, ◌<◌, ◌≤◌, ap, refl, arith, length, get_or}
use Rattle.std.specs.Prelude.{unsigned_abs}
use Rattle.std.proofs.lemmas.Int.{to_z-of_z}
use mir.Syntax.{w128}
use mir.Val.{SFits}
use Rattle.affine_index.specs.Wide.{norm}
use Rattle.linear_cert.proofs.RoomLaws.{amount-large, coefficient-most, divisor-is, limited-many, limited-unfit, product-small, role-within, step-is}
use Rattle.linear_cert.specs.DefaultLines.{less_fact, role_for, side_for}
use Rattle.linear_cert.proofs.attempt.step_of.Goals as goal

pub needed-by-requires : goal.needed-by-requires
needed-by-requires c =
    let left = c.args.attempt.now.left in
    let at = c.in_ok-at.at in
    let t = c.get-item.result.now in
    let is : t ≡ get_or left.terms at t = c.get-item.ensures ∙ ap (λ ts. get_or ts at t) c.terms.ensures in
    divisor-is left at t c.atom.result.now c.chosen_factor-factor.result.now c.divisor_of-divisor.result c.requires.room.ordered c.in_ok-at.ensures.within is
    c.atom.ensures c.chosen_factor-factor.ensures c.divisor_of-divisor.ensures

pub returns-then-by-attempt-gt-LARGEST : goal.returns-then-by-attempt-gt-LARGEST
returns-then-by-attempt-gt-LARGEST c =
    let facts = c.args.facts.now in
    let a = c.args.attempt.now in
    let at = c.in_ok-at.at in
    let t = c.get-item.result.now in
    let size = c.unsigned_abs-size.result in
    let k = c.divisor_of-divisor.result in
    let by = c.needed-by.result in
    let wide : SFits w128 c.coefficient.result = search rules in
    let broad : SFits w128 c.coefficient-2.result = search rules in
    let is : t ≡ get_or a.left.terms at t = c.get-item.ensures ∙ ap (λ ts. get_or ts at t) c.terms.ensures in
    step-is facts a at t c.atom.result.now c.atom-2.result.now c.chosen_factor-factor.result.now c.coefficient.result c.coefficient-2.result
    c.side_for-side.result c.in_ok-fact.fact k size by ((size * by) / k)
    c.in_ok-at.ensures.item c.in_ok-at.ensures.within is c.atom.ensures c.chosen_factor-factor.ensures c.coefficient.ensures
    (c.side_for-side.ensures ∙ ap side_for (to_z-of_z w128 c.coefficient.result wide)) c.atom-2.ensures c.in_ok-fact.ensures c.divisor_of-divisor.ensures
    c.coefficient-2.ensures (c.unsigned_abs-size.ensures.value ∙ ap unsigned_abs (to_z-of_z w128 c.coefficient-2.result broad)) c.needed-by.ensures.is refl
    ∙ limited-many (less_fact facts a by ((size * by) / k) c.in_ok-fact.fact) (omega (arith, c.if-by-attempt-gt-LARGEST.true))

pub overflow_mul-amount : goal.overflow_mul-amount
overflow_mul-amount c =
    let left = c.args.attempt.now.left in
    let at = c.in_ok-at.at in
    let t = c.get-item.result.now in
    let is : t ≡ get_or left.terms at t = c.get-item.ensures ∙ ap (λ ts. get_or ts at t) c.terms.ensures in
    let most = coefficient-most left.terms at t c.in_ok-at.ensures.within is in
    let broad : SFits w128 c.coefficient-2.result = search rules in
    let size = c.unsigned_abs-size.ensures.value ∙ ap unsigned_abs (to_z-of_z w128 c.coefficient-2.result broad ∙ c.coefficient-2.ensures) in
    let small : c.unsigned_abs-size.result ≤ norm left = omega (arith, most, size) in
    let h = product-small c.args.attempt.now.goal_times (norm left) c.needed-by.result c.unsigned_abs-size.result c.requires.room.small small
    (omega (arith, c.if-by-attempt-gt-LARGEST.false)) in
    omega (arith, h, ap (λ n. c.unsigned_abs-size.result * n) c.from.ensures)

pub returns-then-amount-from : goal.returns-then-amount-from
returns-then-amount-from c =
    let facts = c.args.facts.now in
    let a = c.args.attempt.now in
    let at = c.in_ok-at.at in
    let t = c.get-item.result.now in
    let size = c.unsigned_abs-size.result in
    let k = c.divisor_of-divisor.result in
    let by = c.needed-by.result in
    let wide : SFits w128 c.coefficient.result = search rules in
    let broad : SFits w128 c.coefficient-2.result = search rules in
    let n = c.in_ok-fact.fact in
    let amount = (size * c.from.result) / c.from-2.result in
    let is : t ≡ get_or a.left.terms at t = c.get-item.ensures ∙ ap (λ ts. get_or ts at t) c.terms.ensures in
    let within : n < length a.times =
    omega (
      arith,
      role-within (role_for c.side_for-side.result c.atom-2.result.now c.chosen_factor-factor.result.now) facts n c.in_ok-fact.ensures,
      c.requires.room.each,
    ) in
    step-is facts a at t c.atom.result.now c.atom-2.result.now c.chosen_factor-factor.result.now c.coefficient.result c.coefficient-2.result
    c.side_for-side.result n k size by amount
    c.in_ok-at.ensures.item c.in_ok-at.ensures.within is c.atom.ensures c.chosen_factor-factor.ensures c.coefficient.ensures
    (c.side_for-side.ensures ∙ ap side_for (to_z-of_z w128 c.coefficient.result wide)) c.atom-2.ensures c.in_ok-fact.ensures c.divisor_of-divisor.ensures
    c.coefficient-2.ensures (c.unsigned_abs-size.ensures.value ∙ ap unsigned_abs (to_z-of_z w128 c.coefficient-2.result broad)) c.needed-by.ensures.is
    (λ j. (size * c.from.ensures j) / c.from-2.ensures j)
    ∙ limited-unfit (less_fact facts a by amount n)
    (amount-large a.times by a.goal_times n amount c.requires.room.above within (omega (arith, c.if-by-attempt-gt-LARGEST.false))
    (omega (arith, c.if-amount-from.true, c.from-3.ensures)))

pub returns : goal.returns
returns c =
    let facts = c.args.facts.now in
    let a = c.args.attempt.now in
    let at = c.in_ok-at.at in
    let t = c.get-item.result.now in
    let size = c.unsigned_abs-size.result in
    let k = c.divisor_of-divisor.result in
    let by = c.needed-by.result in
    let wide : SFits w128 c.coefficient.result = search rules in
    let broad : SFits w128 c.coefficient-2.result = search rules in
    let n = c.in_ok-fact.fact in
    let amount = (size * c.from.result) / c.from-2.result in
    let is : t ≡ get_or a.left.terms at t = c.get-item.ensures ∙ ap (λ ts. get_or ts at t) c.terms.ensures in
    record {
      within = role-within (role_for c.side_for-side.result c.atom-2.result.now c.chosen_factor-factor.result.now) facts n c.in_ok-fact.ensures;
      some = c.needed-by.ensures.some;
      product = omega (arith, c.if-by-attempt-gt-LARGEST.false);
      small = omega (arith, c.if-amount-from.false, c.from-3.ensures);
      is = step-is facts a at t c.atom.result.now c.atom-2.result.now c.chosen_factor-factor.result.now c.coefficient.result c.coefficient-2.result
          c.side_for-side.result n k size by amount
          c.in_ok-at.ensures.item c.in_ok-at.ensures.within is c.atom.ensures c.chosen_factor-factor.ensures c.coefficient.ensures
          (c.side_for-side.ensures ∙ ap side_for (to_z-of_z w128 c.coefficient.result wide)) c.atom-2.ensures c.in_ok-fact.ensures
          c.divisor_of-divisor.ensures c.coefficient-2.ensures
          (c.unsigned_abs-size.ensures.value ∙ ap unsigned_abs (to_z-of_z w128 c.coefficient-2.result broad)) c.needed-by.ensures.is
          (λ j. (size * c.from.ensures j) / c.from-2.ensures j);
    }
