use Rattle.std.proofs.Common.{◌≡◌, ◌-◌, ◌+◌, ◌*◌}
use Rattle.source_grammar.specs.Index.{max_text}
use Rattle.source_grammar.specs.ReadIndex as spec
use Rattle.term_reader.specs.Names.{named}
use Rattle.term_reader.specs.Steps.{more_products, more_sums}
use Rattle.term_reader.proofs.index.+descent.Given as goal

abbrev pub decreases-sum : goal.decreases-sum
decreases-sum l = 8 * l.levels + 7

abbrev pub decreases-more_sums : goal.decreases-more_sums
decreases-more_sums l = 8 * l.levels + 6

abbrev pub decreases-next_product : goal.decreases-next_product
decreases-next_product l = 8 * l.levels + 5

abbrev pub decreases-product : goal.decreases-product
decreases-product l = 8 * l.levels + 4

abbrev pub decreases-more_products : goal.decreases-more_products
decreases-more_products l = 8 * l.levels + 3

abbrev pub decreases-next_part : goal.decreases-next_part
decreases-next_part l = 8 * l.levels + 2

abbrev pub decreases-part : goal.decreases-part
decreases-part l = 8 * l.levels + 1

abbrev pub decreases-parenthesized : goal.decreases-parenthesized
decreases-parenthesized l = 8 * l.levels

abbrev pub decreases-negated : goal.decreases-negated
decreases-negated l = 8 * l.levels

abbrev pub invariant-more_products-loop-turn : goal.invariant-more_products-loop-turn
invariant-more_products-loop-turn l =
    more_products (named l.names) (spec.inner (named l.names) l.levels) l.levels max_text l.fn.left l.fn.tokens
    ≡ more_products (named l.names) (spec.inner (named l.names) l.levels) l.levels (max_text - l._turn) l.left l.tokens

abbrev pub invariant-more_sums-loop-turn : goal.invariant-more_sums-loop-turn
invariant-more_sums-loop-turn l =
    more_sums (named l.names) (spec.inner (named l.names) l.levels) l.levels max_text l.fn.left l.fn.tokens
    ≡ more_sums (named l.names) (spec.inner (named l.names) l.levels) l.levels (max_text - l._turn) l.left l.tokens
