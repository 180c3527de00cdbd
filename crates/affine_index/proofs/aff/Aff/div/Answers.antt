use Rattle.std.proofs.Common.{◌≡◌, ◌∙◌, ap, ℕ, List}
use Rattle.std.specs.Prelude.{pos}
use Rattle.std.specs.Int.{int_div_euclid}
use Rattle.affine_index.proofs.ArithmeticLaws.{one-room, op_value, ordered-quotient}
use Rattle.affine_index.proofs.Values.{value-quotient}
use Rattle.affine_index.specs.Quotient.{quotient_of}
use Rattle.affine_index.specs.Value.{items_value}
use Rattle.affine_index.proofs.aff.Aff.div.Goals as goal

pub quotient-requires-clause-room : goal.quotient-requires-clause-room
quotient-requires-clause-room c = one-room c.args.self.now c.in_ok-form.form c.in_ok-form.ensures.same c.copied.ensures.normal

pub within_limits-requires : goal.within_limits-requires
within_limits-requires c =
    ordered-quotient c.args.self.now c.in_ok-floor.floor c.args.divisor
    (c.in_ok-floor.ensures {u = tt} ∙ ap (λ i. quotient_of i c.args.divisor) c.in_ok-form.ensures.same) c.requires.positive c.requires.limit
    c.copied.ensures.normal

pub returns-clause-value : goal.returns-clause-value
returns-clause-value c =
    op_value (λ r. (s v : List ℕ) → items_value s v r ≡ int_div_euclid (items_value s v c.args.self.now) (pos c.args.divisor)) c.within_limits.result
    c.in_ok-floor.floor (quotient_of c.args.self.now c.args.divisor)
    (c.in_ok-floor.ensures {u = tt} ∙ ap (λ i. quotient_of i c.args.divisor) c.in_ok-form.ensures.same)
    (λ s v. value-quotient s v c.args.self.now c.args.divisor c.requires.positive) c.within_limits.ensures
