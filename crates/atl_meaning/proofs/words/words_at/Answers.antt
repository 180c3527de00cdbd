use Rattle.std.proofs.Common.{◌∙◌, ap, sym}
use Rattle.atl_meaning.specs.Words.{any_large}
use Rattle.atl_meaning.proofs.ExactLaws.{all-counted-of}
use Rattle.atl_meaning.proofs.words.words_at.Goals as goal

pub product-requires : goal.product-requires
product-requires c =
    all-counted-of c.args.sizes.now c.args.extents.now c.requires.scoped
    (ap (λ f. any_large f c.args.extents.now) (sym c.requires.floor) ∙ sym c.any_large.ensures ∙ c.if-any_large.false)
