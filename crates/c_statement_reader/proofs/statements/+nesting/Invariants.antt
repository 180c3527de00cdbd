use Rattle.std.proofs.Common.{◌≡◌, ◌+◌, ◌*◌, length}
use Rattle.c_read.specs.Scopes.{scope_of}
use Rattle.c_statement_reader.specs.Statements.{inner_statement, more_statements}
use Rattle.c_statement_reader.proofs.statements.+nesting.Given as goal

abbrev pub decreases-statement : goal.decreases-statement
decreases-statement l = 6 * l.levels

abbrev pub decreases-more_statements : goal.decreases-more_statements
decreases-more_statements l = 6 * l.levels + 1

abbrev pub decreases-block : goal.decreases-block
decreases-block l = 6 * l.levels + 2

abbrev pub decreases-looped : goal.decreases-looped
decreases-looped l = 6 * l.levels + 3

abbrev pub decreases-marked_loop : goal.decreases-marked_loop
decreases-marked_loop l = 6 * l.levels + 4

abbrev pub decreases-plain_loop : goal.decreases-plain_loop
decreases-plain_loop l = 6 * l.levels + 4

abbrev pub decreases-guarded : goal.decreases-guarded
decreases-guarded l = 6 * l.levels + 4

abbrev pub decreases-one_statement : goal.decreases-one_statement
decreases-one_statement l = 6 * l.levels + 5

abbrev pub invariant-more_statements-loop-names : goal.invariant-more_statements-loop-names
invariant-more_statements-loop-names l =
    more_statements (inner_statement l.levels) l.levels (scope_of l.names) l.around l.fn.done l.fn.words
    ≡ more_statements (inner_statement l.levels) l.levels (scope_of l.names) l.around l.done l.words

abbrev pub decreases-more_statements-loop-names : goal.decreases-more_statements-loop-names
decreases-more_statements-loop-names l = length l.words.words
