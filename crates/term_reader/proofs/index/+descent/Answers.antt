use Rattle.std.proofs.Common.{rules, ◌≡◌, ◌≢◌, ◌∙◌, sym, ap, Some, Err, ◌<◌, ◌≤◌, arith}
use Rattle.text_tokens.specs.Words.{peek, next}
use Rattle.reader_laws.specs.Steps.{kind}
use Rattle.source_grammar.specs.Index.{max_text, product_operator, sum_operator}
use Rattle.reader_laws.specs.declared.fault.ReadError.TheVariants.{Memory}
use Rattle.source_grammar.specs.ReadIndex as spec
use Rattle.term_reader.specs.Names.{named}
use Rattle.term_reader.specs.Steps.{next_part, next_product, more_products, more_sums}
use Rattle.term_reader.proofs.CodeLaws.{is_of_product, products_fails, sums_fails, products_full, sums_full, text_limit, reads_err}
use Rattle.term_reader.proofs.index.+descent.Goals as goal

pub more_products-returns-in_err-left : goal.more_products-returns-in_err-left
more_products-returns-in_err-left t c =
    let names = named c.args.names.now in
    let operator : product_operator (kind c.loop-turn.tokens) ≡ Some c.in-Some.operator = search rules in
    let stands : c.place-place.result ≡ (peek c.loop-turn.tokens).place = search rules in
    let limit = text_limit in
    let below : c.loop-turn._turn < max_text = omega (arith, limit, c.loop-turn-test.true) in
    let error = c.in_err-left.field-0.0 in
    let reads : error ≢ Memory → next_part names (spec.inner names c.args.levels) c.args.levels c.place-place.result c.loop-turn.left c.in-Some.operator
    (next c.loop-turn.tokens) ≡ Err error = search rules in
    let fails = products_fails names (spec.inner names c.args.levels) c.args.levels max_text c.loop-turn._turn c.place-place.result c.loop-turn.left
    c.in-Some.operator c.loop-turn.tokens error stands below operator reads in
    let is : c.from_residual.result ≡ Err error = search rules in
    reads_err (more_products names (spec.inner names c.args.levels) c.args.levels max_text c.args.left c.args.tokens.now) c.from_residual.result error
    c.next_part.new.tokens is (λ not. c.loop-turn.invariant ∙ fails not)

pub more_products-returns-in-Some-product_operator : goal.more_products-returns-in-Some-product_operator
more_products-returns-in-Some-product_operator t c = λ _.
    let names = named c.args.names.now in
    let operator : product_operator (kind c.loop-turn.tokens) ≡ Some c.in-Some-product_operator.field-0 = search rules in
    let limit = text_limit in
    let done : max_text ≤ c.loop-turn._turn = omega (arith, limit, c.loop-turn-test.false) in
    c.loop-turn.invariant ∙ products_full names (spec.inner names c.args.levels) c.args.levels max_text c.loop-turn._turn c.loop-turn.left
    c.in-Some-product_operator.field-0 c.loop-turn.tokens done operator ∙ ap (λ e. Err e) (sym c.refuse.ensures)

pub more_sums-returns-in_err-left : goal.more_sums-returns-in_err-left
more_sums-returns-in_err-left t c =
    let names = named c.args.names.now in
    let operator : sum_operator (kind c.loop-turn.tokens) ≡ Some c.in-Some.operator = search rules in
    let stands : c.place-place.result ≡ (peek c.loop-turn.tokens).place = search rules in
    let limit = text_limit in
    let below : c.loop-turn._turn < max_text = omega (arith, limit, c.loop-turn-test.true) in
    let error = c.in_err-left.field-0.0 in
    let reads : error ≢ Memory → next_product names (spec.inner names c.args.levels) c.args.levels c.place-place.result c.loop-turn.left c.in-Some.operator
    (next c.loop-turn.tokens) ≡ Err error = search rules in
    let fails = sums_fails names (spec.inner names c.args.levels) c.args.levels max_text c.loop-turn._turn c.place-place.result c.loop-turn.left
    c.in-Some.operator c.loop-turn.tokens error stands below operator reads in
    let is : c.from_residual.result ≡ Err error = search rules in
    reads_err (more_sums names (spec.inner names c.args.levels) c.args.levels max_text c.args.left c.args.tokens.now) c.from_residual.result error
    c.next_product.new.tokens is (λ not. c.loop-turn.invariant ∙ fails not)

pub more_sums-returns-in-Some-sum_operator : goal.more_sums-returns-in-Some-sum_operator
more_sums-returns-in-Some-sum_operator t c = λ _.
    let names = named c.args.names.now in
    let operator : sum_operator (kind c.loop-turn.tokens) ≡ Some c.in-Some-sum_operator.field-0 = search rules in
    let limit = text_limit in
    let done : max_text ≤ c.loop-turn._turn = omega (arith, limit, c.loop-turn-test.false) in
    c.loop-turn.invariant ∙ sums_full names (spec.inner names c.args.levels) c.args.levels max_text c.loop-turn._turn c.loop-turn.left
    c.in-Some-sum_operator.field-0 c.loop-turn.tokens done operator ∙ ap (λ e. Err e) (sym c.refuse.ensures)

pub more_products-next_part-requires : goal.more_products-next_part-requires
more_products-next_part-requires t c =
    let operator : product_operator (kind c.loop-turn.tokens) ≡ Some c.in-Some.operator = search rules in
    (search rules, is_of_product (kind c.loop-turn.tokens) c.in-Some.operator operator)
