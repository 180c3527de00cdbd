use Rattle.std.proofs.Common.{◌≡◌, ◌∙◌, ap, ℕ, List}
use Rattle.std.specs.Prelude.{negsuc, ◌+ℤ◌}
use Rattle.affine_index.proofs.ArithmeticLaws.{difference-room, minus-room, op_value, ordered-difference}
use Rattle.affine_index.proofs.Values.{value-difference}
use Rattle.affine_index.specs.Sum.{difference_of, scaled, sum_of}
use Rattle.affine_index.specs.Value.{items_value}
use Rattle.affine_index.proofs.aff.Aff.sub.Goals as goal

pub scaled-requires : goal.scaled-requires
scaled-requires c = minus-room c.args.other.now c.in_ok-b.b (c.in_ok-b.ensures.same) c.copied-2.ensures.normal

pub sum-requires : goal.sum-requires
sum-requires c =
    difference-room c.args.self.now c.args.other.now c.in_ok-a.a c.in_ok-minus.minus (c.in_ok-a.ensures.same)
    (c.in_ok-minus.ensures {u = tt} ∙ ap (scaled (negsuc 0)) (c.in_ok-b.ensures.same)) c.copied.ensures.normal c.copied-2.ensures.normal

pub within_limits-requires : goal.within_limits-requires
within_limits-requires c =
    ordered-difference c.args.self.now c.args.other.now c.in_ok-total.total
    (c.in_ok-total.ensures {u = tt}
    ∙ (λ k. sum_of (c.in_ok-a.ensures.same k) ((c.in_ok-minus.ensures {u = tt} ∙ ap (scaled (negsuc 0)) (c.in_ok-b.ensures.same)) k)))
    c.copied.ensures.normal c.copied-2.ensures.normal

pub returns-clause-value : goal.returns-clause-value
returns-clause-value c =
    op_value (λ r. (s v : List ℕ) → items_value s v r +ℤ items_value s v c.args.other.now ≡ items_value s v c.args.self.now) c.within_limits.result
    c.in_ok-total.total (difference_of c.args.self.now c.args.other.now)
    (c.in_ok-total.ensures {u = tt}
    ∙ (λ k. sum_of (c.in_ok-a.ensures.same k) ((c.in_ok-minus.ensures {u = tt} ∙ ap (scaled (negsuc 0)) (c.in_ok-b.ensures.same)) k)))
    (λ s v. value-difference s v c.args.self.now c.args.other.now) c.within_limits.ensures
