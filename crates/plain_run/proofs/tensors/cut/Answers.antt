use Rattle.std.proofs.Common.{◌≡◌, ◌∙◌, ◌-◌, ◌<◌, ◌^◌, arith, length, min}
use Rattle.plain_run.specs.Shapes.{product_of}
use Rattle.plain_run.proofs.TensorLists.{front-words, other-words}
use Rattle.plain_run.proofs.tensors.cut.Goals as goal

pub returns-clause-first : goal.returns-clause-first
returns-clause-first c =
    let few : length c.args.words.now < 2 ^ 64 = omega (arith, c.count.ensures, c.count.type_inv) in
    let first : c.min-first.result ≡ min (min (product_of 0 c.args.extents.now) (2 ^ 64 - 1)) (length c.args.words.now) =
    c.min-first.ensures ∙ (λ i. min (c.product.ensures i) (c.count.ensures i)) in
    c.split_at.ensures.front ∙ front-words c.args.extents.now c.args.words.now c.min-first.result few first

pub returns-clause-others : goal.returns-clause-others
returns-clause-others c =
    let few : length c.args.words.now < 2 ^ 64 = omega (arith, c.count.ensures, c.count.type_inv) in
    let first : c.min-first.result ≡ min (min (product_of 0 c.args.extents.now) (2 ^ 64 - 1)) (length c.args.words.now) =
    c.min-first.ensures ∙ (λ i. min (c.product.ensures i) (c.count.ensures i)) in
    c.split_at.ensures.back ∙ other-words c.args.extents.now c.args.words.now c.min-first.result few first
