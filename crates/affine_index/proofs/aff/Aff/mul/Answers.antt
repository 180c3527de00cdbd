use Rattle.std.proofs.Common.{rules, ◌≡◌, ◌∙◌, false, ◌&&◌, ℕ, List}
use Rattle.std.specs.Prelude.{◌*ℤ◌}
use Rattle.affine_index.proofs.ArithmeticLaws.{op_value, ordered-product, product-room, second-room}
use Rattle.affine_index.proofs.Values.{value-product}
use Rattle.affine_index.specs.Normal.{holds_var}
use Rattle.affine_index.specs.Product.{product_of}
use Rattle.affine_index.specs.Value.{items_value}
use Rattle.affine_index.proofs.aff.Aff.mul.Goals as goal

pub product-requires : goal.product-requires
product-requires c = record {
  room = product-room c.args.self.now c.args.other.now c.in_ok-a.a c.in_ok-b.b c.in_ok-a.ensures.same c.in_ok-b.ensures.same c.copied.ensures.normal
      c.copied-2.ensures.normal;
  second = second-room c.args.other.now c.in_ok-b.b c.in_ok-b.ensures.same c.copied-2.ensures.normal;
}

pub within_limits-requires : goal.within_limits-requires
within_limits-requires c =
    let free : (holds_var c.args.self.now && holds_var c.args.other.now) ≡ false = search rules in
    ordered-product c.args.self.now c.args.other.now c.in_ok-total.total
    (c.in_ok-total.ensures {u = tt} ∙ (λ k. product_of (c.in_ok-a.ensures.same k) (c.in_ok-b.ensures.same k)))
    free c.copied.ensures.normal c.copied-2.ensures.normal

pub returns-clause-value : goal.returns-clause-value
returns-clause-value c =
    op_value (λ r. (s v : List ℕ) → items_value s v r ≡ items_value s v c.args.self.now *ℤ items_value s v c.args.other.now) c.within_limits.result
    c.in_ok-total.total (product_of c.args.self.now c.args.other.now)
    (c.in_ok-total.ensures {u = tt} ∙ (λ k. product_of (c.in_ok-a.ensures.same k) (c.in_ok-b.ensures.same k)))
    (λ s v. value-product s v c.args.self.now c.args.other.now) c.within_limits.ensures
