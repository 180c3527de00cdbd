use Rattle.std.proofs.Common.{◌≡◌, ◌-◌, ◌+◌, ◌*◌}
use Rattle.schedule_script.specs.Index.{inner, more_factors, more_summands}
use Rattle.schedule_script.specs.Words.{most_items}
use Rattle.schedule_script.proofs.index.+descent.Given as goal

abbrev pub decreases-sum : goal.decreases-sum
decreases-sum l = 9 * l.levels + 8

abbrev pub decreases-more_summands : goal.decreases-more_summands
decreases-more_summands l = 9 * l.levels + 7

abbrev pub decreases-summand_after : goal.decreases-summand_after
decreases-summand_after l = 9 * l.levels + 6

abbrev pub decreases-product : goal.decreases-product
decreases-product l = 9 * l.levels + 5

abbrev pub decreases-more_factors : goal.decreases-more_factors
decreases-more_factors l = 9 * l.levels + 4

abbrev pub decreases-factor_after : goal.decreases-factor_after
decreases-factor_after l = 9 * l.levels + 3

abbrev pub decreases-times_part : goal.decreases-times_part
decreases-times_part l = 9 * l.levels + 2

abbrev pub decreases-part : goal.decreases-part
decreases-part l = 9 * l.levels + 1

abbrev pub decreases-parenthesized : goal.decreases-parenthesized
decreases-parenthesized l = 9 * l.levels

abbrev pub decreases-negated : goal.decreases-negated
decreases-negated l = 9 * l.levels

abbrev pub invariant-more_factors-loop-turn : goal.invariant-more_factors-loop-turn
invariant-more_factors-loop-turn l =
    more_factors (inner l.levels) l.levels most_items l.fn.left l.fn.tokens ≡ more_factors (inner l.levels) l.levels (most_items - l._turn) l.left l.tokens

abbrev pub invariant-more_summands-loop-turn : goal.invariant-more_summands-loop-turn
invariant-more_summands-loop-turn l =
    more_summands (inner l.levels) l.levels most_items l.fn.left l.fn.tokens ≡ more_summands (inner l.levels) l.levels (most_items - l._turn) l.left l.tokens
