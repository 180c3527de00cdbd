use Rattle.std.proofs.Common.{◌≡◌, ◌∙◌, ◌-◌, ◌^◌, List, ℕ, ap, false, min, sym}
use Rattle.term_tree.specs.Modules.{extents_at}
use Rattle.atl_meaning.specs.Words.{any_large, at_least_one}
use Rattle.plain_run.specs.Shapes.{product_of}
use Rattle.plain_run.proofs.ShapeLaws.{big-few, big-many, found-some}
use Rattle.plain_run.proofs.shapes.input_shape.Goals as goal

pub returns-then-words-gt-MOST_WORDS : goal.returns-then-words-gt-MOST_WORDS
returns-then-words-gt-MOST_WORDS c =
    let s = c.args.sizes.now in
    let forms = c.args.forms.now in
    let found = found-some (any_large c.args.floor.now forms) (extents_at forms s) c.in-Some.shape (sym c.in_ok-extents.ensures ∙ c.in-Some.is) in
    let small : any_large (at_least_one s) forms ≡ false = ap (λ (f : List ℕ). any_large f forms) (sym c.requires.floor) ∙ found.0 in
    let words = c.product-words.ensures ∙ ap (λ (ns : List ℕ). min (product_of 1 ns) (2 ^ 64 - 1)) (c.as_slice.ensures ∙ found.1) in
    big-many s forms c.product-words.result small words c.if-words-gt-MOST_WORDS.true

pub returns-else-words-gt-MOST_WORDS : goal.returns-else-words-gt-MOST_WORDS
returns-else-words-gt-MOST_WORDS c =
    let s = c.args.sizes.now in
    let forms = c.args.forms.now in
    let found = found-some (any_large c.args.floor.now forms) (extents_at forms s) c.in-Some.shape (sym c.in_ok-extents.ensures ∙ c.in-Some.is) in
    let small : any_large (at_least_one s) forms ≡ false = ap (λ (f : List ℕ). any_large f forms) (sym c.requires.floor) ∙ found.0 in
    let words = c.product-words.ensures ∙ ap (λ (ns : List ℕ). min (product_of 1 ns) (2 ^ 64 - 1)) (c.as_slice.ensures ∙ found.1) in
    (big-few s forms c.product-words.result small words c.if-words-gt-MOST_WORDS.false, found.1)
