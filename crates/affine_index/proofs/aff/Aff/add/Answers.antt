use Rattle.std.proofs.Common.{◌≡◌, ◌∙◌, ℕ, List}
use Rattle.std.specs.Prelude.{◌+ℤ◌}
use Rattle.affine_index.proofs.ArithmeticLaws.{op_value, ordered-sum, sum-room}
use Rattle.affine_index.proofs.SumValue.{sum_of-value}
use Rattle.affine_index.specs.Sum.{sum_of}
use Rattle.affine_index.specs.Value.{items_value}
use Rattle.affine_index.proofs.aff.Aff.add.Goals as goal

pub sum-requires : goal.sum-requires
sum-requires c =
    sum-room c.args.self.now c.args.other.now c.in_ok-a.a c.in_ok-b.b (c.in_ok-a.ensures.same) (c.in_ok-b.ensures.same) c.copied.ensures.normal
    c.copied-2.ensures.normal

pub within_limits-requires : goal.within_limits-requires
within_limits-requires c =
    ordered-sum c.args.self.now c.args.other.now c.in_ok-total.total
    (c.in_ok-total.ensures {u = tt} ∙ (λ k. sum_of (c.in_ok-a.ensures.same k) (c.in_ok-b.ensures.same k))) c.copied.ensures.normal c.copied-2.ensures.normal

pub returns-clause-value : goal.returns-clause-value
returns-clause-value c =
    op_value (λ r. (s v : List ℕ) → items_value s v r ≡ items_value s v c.args.self.now +ℤ items_value s v c.args.other.now) c.within_limits.result
    c.in_ok-total.total (sum_of c.args.self.now c.args.other.now)
    (c.in_ok-total.ensures {u = tt} ∙ (λ k. sum_of (c.in_ok-a.ensures.same k) (c.in_ok-b.ensures.same k)))
    (λ s v. sum_of-value s v c.args.self.now c.args.other.now) c.within_limits.ensures
