use Rattle.std.proofs.Common.{◌≡◌, ◌∙◌, ◌+◌, ◌*◌, ◌-◌, ◌^◌, ap, arith, drop, max, min, sym}
use Rattle.std.proofs.lemmas.Bool.{and_parts}
use Rattle.term_tree.specs.Meaning.{extent}
use Rattle.term_tree.specs.Modules.{extents_at}
use Rattle.atl_meaning.specs.Exact.{all_counted, is_counted}
use Rattle.atl_meaning.specs.Words.{word_product}
use Rattle.atl_meaning.proofs.ListLaws.{drop-next, drop-whole}
use Rattle.atl_meaning.proofs.WordLaws.{product-next, word_product-least}
use Rattle.atl_meaning.proofs.words.product.Goals as goal

pub loop-form-preserved : goal.loop-form-preserved
loop-form-preserved c =
    let s = c.args.sizes.now in
    let n = c.form-item.result in
    let rest = drop (c.loop-form.form-index + 1) c.args.extents.now in
    let e = drop-next c.args.extents.now c.loop-form.form-index n (omega arith) c.form-item.is in
    let cap = 2 ^ 64 - 1 in
    record {
      counted = (and_parts (is_counted s n) (all_counted s rest) (ap (all_counted s) (sym e) ∙ c.loop-form.invariant.counted)).1;
      most = omega (arith, c.saturating_mul-words.ensures);
      words = product-next c.loop-form.words (max (extent n s) 1) (word_product (extents_at rest s)) cap c.saturating_mul-words.result
          (c.saturating_mul-words.ensures ∙ ap (λ x. min (c.loop-form.words * x) cap) (c.max.ensures ∙ ap (λ x. max x 1) c.extent.ensures))
          (word_product-least (extents_at rest s))
          ∙ ap (λ ns. min (c.loop-form.words * word_product (extents_at ns s)) cap) (sym e)
          ∙ c.loop-form.invariant.words;
    }

pub returns : goal.returns
returns c =
    let s = c.args.sizes.now in
    let e = drop-whole c.args.extents.now c.loop-form.form-index (omega arith) in
    let f : c.loop-form.words ≡ min (c.loop-form.words * 1) (2 ^ 64 - 1) = omega (arith, c.loop-form.invariant.most) in
    f ∙ ap (λ ns. min (c.loop-form.words * word_product (extents_at ns s)) (2 ^ 64 - 1)) (sym e) ∙ c.loop-form.invariant.words
