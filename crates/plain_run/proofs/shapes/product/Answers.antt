use Rattle.std.proofs.Common.{◌∙◌, ◌+◌, ◌*◌, ◌-◌, ◌^◌, List, ℕ, ap, arith, drop, get_or, max, min, sym}
use Rattle.std.proofs.lemmas.List.{at_drop_more}
use Rattle.plain_run.specs.Shapes.{product_of}
use Rattle.plain_run.proofs.ShapeLaws.{times-next}
use Rattle.plain_run.proofs.shapes.product.Goals as goal

pub loop-number-preserved : goal.loop-number-preserved
loop-number-preserved c =
    let ns = c.args.numbers.now in
    let k = c.loop-number.number-index in
    let least = c.args.least in
    let so_far = c.loop-number.product in
    let cap = 2 ^ 64 - 1 in
    record {
      most = omega (arith, c.saturating_mul-product.ensures);
      product = times-next so_far (max (get_or ns k 0) least) (product_of least (drop (k + 1) ns)) cap c.saturating_mul-product.result
          (c.saturating_mul-product.ensures ∙ ap (λ (n : ℕ). min (so_far * n) cap) c.max.ensures)
          ∙ sym (at_drop_more (λ (xs : List ℕ). min (so_far * product_of least xs) cap) ns k 0 c.loop-number-test.true)
          ∙ c.loop-number.invariant.product;
    }
