use Rattle.std.proofs.Common.{◌≡◌, ◌-◌, ◌+◌, ◌*◌}
use Rattle.source_grammar.specs.Terms.{max_chain}
use Rattle.term_reader.specs.Frames.{entries_of}
use Rattle.term_reader.specs.Steps.{more_factors, more_terms}
use Rattle.term_reader.proofs.terms.+descent.Given as goal

abbrev pub decreases-term : goal.decreases-term
decreases-term l = 16 * l.levels + 9

abbrev pub decreases-total : goal.decreases-total
decreases-total l = 16 * l.levels + 8

abbrev pub decreases-more_terms : goal.decreases-more_terms
decreases-more_terms l = 16 * l.levels + 7

abbrev pub decreases-next_term : goal.decreases-next_term
decreases-next_term l = 16 * l.levels + 6

abbrev pub decreases-product : goal.decreases-product
decreases-product l = 16 * l.levels + 5

abbrev pub decreases-more_factors : goal.decreases-more_factors
decreases-more_factors l = 16 * l.levels + 4

abbrev pub decreases-next_factor : goal.decreases-next_factor
decreases-next_factor l = 16 * l.levels + 3

abbrev pub decreases-factor : goal.decreases-factor
decreases-factor l = 16 * l.levels + 2

abbrev pub decreases-primary : goal.decreases-primary
decreases-primary l = 16 * l.levels + 1

abbrev pub decreases-loop_of : goal.decreases-loop_of
decreases-loop_of l = 16 * l.levels

abbrev pub decreases-guarded : goal.decreases-guarded
decreases-guarded l = 16 * l.levels

abbrev pub decreases-bound : goal.decreases-bound
decreases-bound l = 16 * l.levels

abbrev pub decreases-in_parens : goal.decreases-in_parens
decreases-in_parens l = 16 * l.levels

abbrev pub decreases-of_one : goal.decreases-of_one
decreases-of_one l = 16 * l.levels

abbrev pub decreases-joint : goal.decreases-joint
decreases-joint l = 16 * l.levels

abbrev pub decreases-cut : goal.decreases-cut
decreases-cut l = 16 * l.levels

abbrev pub decreases-trimmed : goal.decreases-trimmed
decreases-trimmed l = 16 * l.levels

abbrev pub invariant-more_factors-loop-turn : goal.invariant-more_factors-loop-turn
invariant-more_factors-loop-turn l =
    more_factors (entries_of l.scope) l.levels max_chain l.fn.left l.fn.tokens ≡ more_factors (entries_of l.scope) l.levels (max_chain - l._turn) l.left
    l.tokens

abbrev pub invariant-more_terms-loop-turn : goal.invariant-more_terms-loop-turn
invariant-more_terms-loop-turn l =
    more_terms (entries_of l.scope) l.levels max_chain l.fn.left l.fn.tokens ≡ more_terms (entries_of l.scope) l.levels (max_chain - l._turn) l.left l.tokens
