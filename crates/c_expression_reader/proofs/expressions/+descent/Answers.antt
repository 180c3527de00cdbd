use Rattle.std.proofs.Common.{rules, ◌≡◌, ◌≢◌, ◌∙◌, sym, ap, Some, None, Ok, Err, ◌-◌, ◌<◌, ◌≤◌, true, arith}
use Rattle.text_tokens.specs.declared.kind.Kind.TheVariants.{And}
use Rattle.text_tokens.specs.Kinds.{same_kind}
use Rattle.reader_laws.specs.declared.fault.ReadError.TheVariants.{Memory}
use Rattle.reader_laws.specs.Steps.{kind}
use Rattle.c_print.specs.declared.level.Level.TheVariants.{Product, Part}
use Rattle.c_text.specs.Expression.{compared, join, max_chain, product_operator, sum_operator}
use Rattle.c_text.specs.Expression as grammar
use Rattle.c_read.specs.Scopes.{scope_of}
use Rattle.c_expression_reader.specs.Values.{operator_of, value_of}
use Rattle.c_expression_reader.specs.Expressions.{inner, more_comparisons, more_factors, more_summands, more_tests, one_more, sum, turn}
use Rattle.c_expression_reader.proofs.Answered.{reads_err}
use Rattle.c_expression_reader.proofs.Turns.{chain_limit, comparison_fell, comparison_none, comparison_two, comparison_went, factors_fell, factors_full}
use Rattle.c_expression_reader.proofs.Turns.{factors_stop, factors_went, summands_fell, summands_full, summands_stop, summands_went}
use Rattle.c_expression_reader.proofs.Tests.{tests_fell, tests_shorter}
use Rattle.c_expression_reader.proofs.expressions.+descent.Goals as goal

pub more_factors-returns-in_err-value : goal.more_factors-returns-in_err-value
more_factors-returns-in_err-value t c =
    let scope = scope_of c.args.names in
    let below = inner scope c.args.levels in
    let operator : product_operator (kind c.loop-turn.words) ≡ Some (operator_of c.in-Some.operator) = search rules in
    let limit = chain_limit in
    let few : c.loop-turn._turn < max_chain = omega (arith, limit, c.loop-turn-test.true) in
    let error = c.in_err-value.field-0.0 in
    let reads : error ≢ Memory → turn c.args.levels (below Part) (join (operator_of c.in-Some.operator) (value_of c.loop-turn.left)) c.loop-turn.words
    ≡ Err error = search rules in
    let fails = factors_fell scope below c.args.levels max_chain c.loop-turn._turn (value_of c.loop-turn.left) c.in-Some.operator c.loop-turn.words error few
    operator reads in
    let is : c.from_residual.result ≡ Err error = search rules in
    reads_err value_of (more_factors scope below c.args.levels max_chain (value_of c.args.left) c.args.words.now) c.from_residual.result error
    c.next_factor.new.words is (λ no. c.loop-turn.invariant ∙ fails no)

pub more_factors-returns-in-Some-product_operator : goal.more_factors-returns-in-Some-product_operator
more_factors-returns-in-Some-product_operator t c = λ _.
    let scope = scope_of c.args.names in
    let below = inner scope c.args.levels in
    let operator : product_operator (kind c.loop-turn.words) ≡ Some (operator_of c.in-Some-product_operator.field-0) = search rules in
    let limit = chain_limit in
    let done : max_chain ≤ c.loop-turn._turn = omega (arith, limit, c.loop-turn-test.false) in
    c.loop-turn.invariant
    ∙ factors_full scope below c.args.levels max_chain c.loop-turn._turn (value_of c.loop-turn.left) c.in-Some-product_operator.field-0 c.loop-turn.words done
    operator
    ∙ ap (λ e. Err e) (sym c.refuse.ensures)

pub more_summands-returns-in_err-value : goal.more_summands-returns-in_err-value
more_summands-returns-in_err-value t c =
    let scope = scope_of c.args.names in
    let below = inner scope c.args.levels in
    let operator : sum_operator (kind c.loop-turn.words) ≡ Some (operator_of c.in-Some.operator) = search rules in
    let limit = chain_limit in
    let few : c.loop-turn._turn < max_chain = omega (arith, limit, c.loop-turn-test.true) in
    let error = c.in_err-value.field-0.0 in
    let reads : error ≢ Memory → turn c.args.levels (below Product) (join (operator_of c.in-Some.operator) (value_of c.loop-turn.left)) c.loop-turn.words
    ≡ Err error = search rules in
    let fails = summands_fell scope below c.args.levels max_chain c.loop-turn._turn (value_of c.loop-turn.left) c.in-Some.operator c.loop-turn.words error few
    operator reads in
    let is : c.from_residual.result ≡ Err error = search rules in
    reads_err value_of (more_summands scope below c.args.levels max_chain (value_of c.args.left) c.args.words.now) c.from_residual.result error
    c.next_summand.new.words is (λ no. c.loop-turn.invariant ∙ fails no)

pub more_summands-returns-in-Some-sum_operator : goal.more_summands-returns-in-Some-sum_operator
more_summands-returns-in-Some-sum_operator t c = λ _.
    let scope = scope_of c.args.names in
    let below = inner scope c.args.levels in
    let operator : sum_operator (kind c.loop-turn.words) ≡ Some (operator_of c.in-Some-sum_operator.field-0) = search rules in
    let limit = chain_limit in
    let done : max_chain ≤ c.loop-turn._turn = omega (arith, limit, c.loop-turn-test.false) in
    c.loop-turn.invariant
    ∙ summands_full scope below c.args.levels max_chain c.loop-turn._turn (value_of c.loop-turn.left) c.in-Some-sum_operator.field-0 c.loop-turn.words done
    operator
    ∙ ap (λ e. Err e) (sym c.refuse.ensures)

pub more_tests-returns-in_err-value : goal.more_tests-returns-in_err-value
more_tests-returns-in_err-value t c =
    let scope = scope_of c.args.names in
    let below = inner scope c.args.levels in
    let goes : same_kind (kind c.loop-alloc.words) And ≡ true = search rules in
    let error = c.in_err-value.field-0.0 in
    let reads : error ≢ Memory → one_more scope below c.args.levels (value_of c.loop-alloc.left) c.loop-alloc.words ≡ Err error = search rules in
    let fails = tests_fell scope c.args.levels (value_of c.loop-alloc.left) c.loop-alloc.words error goes reads in
    let is : c.from_residual.result ≡ Err error = search rules in
    reads_err value_of (more_tests scope below c.args.levels (value_of c.args.left) c.args.words.now) c.from_residual.result error
    c.one_more.new.words is (λ no. c.loop-alloc.invariant ∙ fails no)

pub more_factors-returns-in_default : goal.more_factors-returns-in_default
more_factors-returns-in_default t c =
    let scope = scope_of c.args.names in
    let none : product_operator (kind c.loop-turn.words) ≡ None = search rules in
    c.loop-turn.invariant
    ∙ factors_stop scope (inner scope c.args.levels) c.args.levels (max_chain - c.loop-turn._turn) (value_of c.loop-turn.left) c.loop-turn.words none

pub more_factors-returns-in-None : goal.more_factors-returns-in-None
more_factors-returns-in-None t c =
    let scope = scope_of c.args.names in
    let none : product_operator (kind c.loop-turn.words) ≡ None = search rules in
    c.loop-turn.invariant
    ∙ factors_stop scope (inner scope c.args.levels) c.args.levels (max_chain - c.loop-turn._turn) (value_of c.loop-turn.left) c.loop-turn.words none

pub more_factors-loop-turn-preserved : goal.more_factors-loop-turn-preserved
more_factors-loop-turn-preserved t c =
    let scope = scope_of c.args.names in
    let below = inner scope c.args.levels in
    let operator : product_operator (kind c.loop-turn.words) ≡ Some (operator_of c.in-Some.operator) = search rules in
    let limit = chain_limit in
    let few : c.loop-turn._turn < max_chain = omega (arith, limit, c.loop-turn-test.true) in
    let reads : turn c.args.levels (below Part) (join (operator_of c.in-Some.operator) (value_of c.loop-turn.left)) c.loop-turn.words
    ≡ Ok (value_of c.in_ok-value.value, c.next_factor.new.words) = search rules in
    c.loop-turn.invariant
    ∙ factors_went scope below c.args.levels max_chain c.loop-turn._turn (value_of c.loop-turn.left) (value_of c.in_ok-value.value) c.in-Some.operator
    c.loop-turn.words c.next_factor.new.words few operator reads

pub more_summands-returns-in_default : goal.more_summands-returns-in_default
more_summands-returns-in_default t c =
    let scope = scope_of c.args.names in
    let none : sum_operator (kind c.loop-turn.words) ≡ None = search rules in
    c.loop-turn.invariant
    ∙ summands_stop scope (inner scope c.args.levels) c.args.levels (max_chain - c.loop-turn._turn) (value_of c.loop-turn.left) c.loop-turn.words none

pub more_summands-returns-in-None : goal.more_summands-returns-in-None
more_summands-returns-in-None t c =
    let scope = scope_of c.args.names in
    let none : sum_operator (kind c.loop-turn.words) ≡ None = search rules in
    c.loop-turn.invariant
    ∙ summands_stop scope (inner scope c.args.levels) c.args.levels (max_chain - c.loop-turn._turn) (value_of c.loop-turn.left) c.loop-turn.words none

pub more_summands-loop-turn-preserved : goal.more_summands-loop-turn-preserved
more_summands-loop-turn-preserved t c =
    let scope = scope_of c.args.names in
    let below = inner scope c.args.levels in
    let operator : sum_operator (kind c.loop-turn.words) ≡ Some (operator_of c.in-Some.operator) = search rules in
    let limit = chain_limit in
    let few : c.loop-turn._turn < max_chain = omega (arith, limit, c.loop-turn-test.true) in
    let reads : turn c.args.levels (below Product) (join (operator_of c.in-Some.operator) (value_of c.loop-turn.left)) c.loop-turn.words
    ≡ Ok (value_of c.in_ok-value.value, c.next_summand.new.words) = search rules in
    c.loop-turn.invariant
    ∙ summands_went scope below c.args.levels max_chain c.loop-turn._turn (value_of c.loop-turn.left) (value_of c.in_ok-value.value) c.in-Some.operator
    c.loop-turn.words c.next_summand.new.words few operator reads

pub more_comparisons-returns-in_err-value : goal.more_comparisons-returns-in_err-value
more_comparisons-returns-in_err-value t c =
    let scope = scope_of c.args.names in
    let below = inner scope c.args.levels in
    let one : grammar.relation (kind c.args.words.now) ≡ Some c.in-Some.rel = search rules in
    let error = c.in_err-value.field-0.0 in
    let reads : error ≢ Memory → turn 1 (sum scope below c.args.levels) (compared c.in-Some.rel (value_of c.args.left)) c.args.words.now ≡ Err error
    = search rules in
    let fails = comparison_fell scope below c.args.levels (value_of c.args.left) c.in-Some.rel c.args.words.now error one reads in
    let is : c.from_residual.result ≡ Err error = search rules in
    reads_err value_of (more_comparisons scope below c.args.levels 1 (value_of c.args.left) c.args.words.now) c.from_residual.result error
    c.next_comparison.new.words is fails

pub more_comparisons-returns-in-Some-relation : goal.more_comparisons-returns-in-Some-relation
more_comparisons-returns-in-Some-relation t c = λ _.
    let scope = scope_of c.args.names in
    let below = inner scope c.args.levels in
    let one : grammar.relation (kind c.args.words.now) ≡ Some c.in-Some.rel = search rules in
    let reads : turn 1 (sum scope below c.args.levels) (compared c.in-Some.rel (value_of c.args.left)) c.args.words.now
    ≡ Ok (value_of c.in_ok-value.value, c.next_comparison.new.words) = search rules in
    let two : grammar.relation (kind c.next_comparison.new.words) ≡ Some c.in-Some-relation.field-0 = search rules in
    comparison_went scope below c.args.levels (value_of c.args.left) (value_of c.in_ok-value.value) c.in-Some.rel c.args.words.now
    c.next_comparison.new.words one reads
    ∙ comparison_two scope below c.args.levels (value_of c.in_ok-value.value) c.in-Some-relation.field-0 c.next_comparison.new.words two
    ∙ ap (λ e. Err e) (sym c.refuse.ensures)

pub more_comparisons-returns-in-None : goal.more_comparisons-returns-in-None
more_comparisons-returns-in-None t c =
    let scope = scope_of c.args.names in
    let below = inner scope c.args.levels in
    let one : grammar.relation (kind c.args.words.now) ≡ Some c.in-Some.rel = search rules in
    let reads : turn 1 (sum scope below c.args.levels) (compared c.in-Some.rel (value_of c.args.left)) c.args.words.now
    ≡ Ok (value_of c.in_ok-value.value, c.next_comparison.new.words) = search rules in
    let none : grammar.relation (kind c.next_comparison.new.words) ≡ None = search rules in
    comparison_went scope below c.args.levels (value_of c.args.left) (value_of c.in_ok-value.value) c.in-Some.rel c.args.words.now
    c.next_comparison.new.words one reads
    ∙ comparison_none scope below c.args.levels 0 (value_of c.in_ok-value.value) c.next_comparison.new.words none

pub more_tests-loop-alloc-smaller : goal.more_tests-loop-alloc-smaller
more_tests-loop-alloc-smaller t c =
    let scope = scope_of c.args.names in
    let reads : one_more scope (inner scope c.args.levels) c.args.levels (value_of c.loop-alloc.left) c.loop-alloc.words
    ≡ Ok (value_of c.in_ok-value.value, c.one_more.new.words) = search rules in
    let less = tests_shorter scope c.args.levels (value_of c.loop-alloc.left) (value_of c.in_ok-value.value) c.loop-alloc.words c.one_more.new.words reads in
    omega (arith, less)
