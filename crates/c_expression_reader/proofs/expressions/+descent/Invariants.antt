use Rattle.std.proofs.Common.{◌≡◌, ◌-◌, ◌+◌, ◌*◌, length}
use Rattle.c_text.specs.Expression.{max_chain}
use Rattle.c_read.specs.Scopes.{scope_of}
use Rattle.c_expression_reader.specs.Values.{value_of}
use Rattle.c_expression_reader.specs.Expressions.{inner, more_factors, more_summands, more_tests}
use Rattle.c_expression_reader.proofs.expressions.+descent.Given as goal

abbrev pub decreases-inner_choice : goal.decreases-inner_choice
decreases-inner_choice l = 18 * l.levels + 0

abbrev pub decreases-inner_product : goal.decreases-inner_product
decreases-inner_product l = 18 * l.levels + 0

abbrev pub decreases-inner_part : goal.decreases-inner_part
decreases-inner_part l = 18 * l.levels + 0

abbrev pub decreases-inner_index : goal.decreases-inner_index
decreases-inner_index l = 18 * l.levels + 1

abbrev pub decreases-in_brackets : goal.decreases-in_brackets
decreases-in_brackets l = 18 * l.levels + 2

abbrev pub decreases-second : goal.decreases-second
decreases-second l = 18 * l.levels + 2

abbrev pub decreases-load : goal.decreases-load
decreases-load l = 18 * l.levels + 3

abbrev pub decreases-larger : goal.decreases-larger
decreases-larger l = 18 * l.levels + 3

abbrev pub decreases-converted : goal.decreases-converted
decreases-converted l = 18 * l.levels + 3

abbrev pub decreases-parenthesized : goal.decreases-parenthesized
decreases-parenthesized l = 18 * l.levels + 3

abbrev pub decreases-in_parens : goal.decreases-in_parens
decreases-in_parens l = 18 * l.levels + 4

abbrev pub decreases-named : goal.decreases-named
decreases-named l = 18 * l.levels + 5

abbrev pub decreases-part : goal.decreases-part
decreases-part l = 18 * l.levels + 6

abbrev pub decreases-next_factor : goal.decreases-next_factor
decreases-next_factor l = 18 * l.levels + 1

abbrev pub decreases-more_factors : goal.decreases-more_factors
decreases-more_factors l = 18 * l.levels + 7

abbrev pub decreases-product : goal.decreases-product
decreases-product l = 18 * l.levels + 8

abbrev pub decreases-next_summand : goal.decreases-next_summand
decreases-next_summand l = 18 * l.levels + 1

abbrev pub decreases-more_summands : goal.decreases-more_summands
decreases-more_summands l = 18 * l.levels + 9

abbrev pub decreases-sum : goal.decreases-sum
decreases-sum l = 18 * l.levels + 10

abbrev pub decreases-next_comparison : goal.decreases-next_comparison
decreases-next_comparison l = 18 * l.levels + 11

abbrev pub decreases-more_comparisons : goal.decreases-more_comparisons
decreases-more_comparisons l = 18 * l.levels + 12

abbrev pub decreases-relation : goal.decreases-relation
decreases-relation l = 18 * l.levels + 13

abbrev pub decreases-one_more : goal.decreases-one_more
decreases-one_more l = 18 * l.levels + 14

abbrev pub decreases-more_tests : goal.decreases-more_tests
decreases-more_tests l = 18 * l.levels + 15

abbrev pub decreases-tests : goal.decreases-tests
decreases-tests l = 18 * l.levels + 16

abbrev pub decreases-second_side : goal.decreases-second_side
decreases-second_side l = 18 * l.levels + 1

abbrev pub decreases-chosen : goal.decreases-chosen
decreases-chosen l = 18 * l.levels + 2

abbrev pub decreases-if_choice : goal.decreases-if_choice
decreases-if_choice l = 18 * l.levels + 3

abbrev pub decreases-choice : goal.decreases-choice
decreases-choice l = 18 * l.levels + 17

abbrev pub invariant-more_factors-loop-turn : goal.invariant-more_factors-loop-turn
invariant-more_factors-loop-turn l =
    more_factors (scope_of l.names) (inner (scope_of l.names) l.levels) l.levels max_chain (value_of l.fn.left) l.fn.words
    ≡ more_factors (scope_of l.names) (inner (scope_of l.names) l.levels) l.levels (max_chain - l._turn) (value_of l.left) l.words

abbrev pub invariant-more_summands-loop-turn : goal.invariant-more_summands-loop-turn
invariant-more_summands-loop-turn l =
    more_summands (scope_of l.names) (inner (scope_of l.names) l.levels) l.levels max_chain (value_of l.fn.left) l.fn.words
    ≡ more_summands (scope_of l.names) (inner (scope_of l.names) l.levels) l.levels (max_chain - l._turn) (value_of l.left) l.words

abbrev pub invariant-more_tests-loop-alloc : goal.invariant-more_tests-loop-alloc
invariant-more_tests-loop-alloc l =
    more_tests (scope_of l.names) (inner (scope_of l.names) l.levels) l.levels (value_of l.fn.left) l.fn.words
    ≡ more_tests (scope_of l.names) (inner (scope_of l.names) l.levels) l.levels (value_of l.left) l.words

abbrev pub decreases-more_tests-loop-alloc : goal.decreases-more_tests-loop-alloc
decreases-more_tests-loop-alloc l = length l.words.words
