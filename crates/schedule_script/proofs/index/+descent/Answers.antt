use Rattle.std.proofs.Common.{◌≡◌, ◌<◌, Some, None, Ok, Err, true, cond, sym, ap, ◌∙◌, arith, rules}
use Rattle.text_tokens.specs.Words.{peek, next}
use Rattle.reader_laws.specs.declared.fault.Fault.TheVariants.{IndexTooLong}
use Rattle.reader_laws.specs.declared.fault.ReadError.TheVariants.{Refused}
use Rattle.reader_laws.specs.Steps.{kind}
use Rattle.schedule_script.specs.Depth.{limited}
use Rattle.schedule_script.specs.Words.{most_items}
use Rattle.schedule_script.specs.Index.{inner, product_sign, sum_sign, factor_after, summand_after, more_factors, more_summands}
use Rattle.schedule_script.proofs.Loops.{items, products_clashed, sums_clashed}
use Rattle.schedule_script.proofs.Parts.{reads_err}
use Rattle.schedule_script.proofs.index.+descent.Goals as goal

pub more_factors-returns-in_err-left : goal.more_factors-returns-in_err-left
more_factors-returns-in_err-left t c =
    let i = c.loop-turn.tokens in
    let test : product_sign (kind c.loop-turn.tokens) ≡ cond c.is_product_sign.result (Some (kind c.loop-turn.tokens)) None = search rules in
    let yes : c.is_product_sign.result ≡ true = search rules in
    let most = items in
    let below : c.loop-turn._turn < most_items = omega (arith, most, c.loop-turn-test.true) in
    let reads : factor_after (inner c.args.levels) c.args.levels (kind c.loop-turn.tokens) c.loop-turn.left (next c.loop-turn.tokens)
    ≡ Ok (c.in_ok-joined.joined, c.factor_after.new.tokens) = search rules in
    let place : c.place-place.result ≡ (peek c.loop-turn.tokens).place = search rules in
    let error = c.in_err-left.field-0.0 in
    let clash : limited c.in_ok-joined.joined ≡ Err IndexTooLong = search rules in
    let what : error ≡ Refused IndexTooLong c.place-place.result = search rules in
    let is : c.from_residual-in_err-left.result ≡ Err error = search rules in
    reads_err (more_factors (inner c.args.levels) c.args.levels most_items c.args.left c.args.tokens.now) c.from_residual-in_err-left.result error
    c.factor_after.new.tokens is
    (λ not. c.loop-turn.invariant
    ∙ products_clashed (inner c.args.levels) c.args.levels most_items c.loop-turn._turn c.loop-turn.left c.in_ok-joined.joined i c.factor_after.new.tokens
    IndexTooLong c.is_product_sign.result below test yes reads clash
    ∙ ap (λ e. Err e) (sym (what ∙ ap (λ p. Refused IndexTooLong p) place)))

pub more_summands-returns-in_err-left : goal.more_summands-returns-in_err-left
more_summands-returns-in_err-left t c =
    let i = c.loop-turn.tokens in
    let test : sum_sign (kind c.loop-turn.tokens) ≡ cond c.is_sum_sign.result (Some (kind c.loop-turn.tokens)) None = search rules in
    let yes : c.is_sum_sign.result ≡ true = search rules in
    let most = items in
    let below : c.loop-turn._turn < most_items = omega (arith, most, c.loop-turn-test.true) in
    let reads : summand_after (inner c.args.levels) c.args.levels (kind c.loop-turn.tokens) c.loop-turn.left (next c.loop-turn.tokens)
    ≡ Ok (c.in_ok-joined.joined, c.summand_after.new.tokens) = search rules in
    let place : c.place-place.result ≡ (peek c.loop-turn.tokens).place = search rules in
    let error = c.in_err-left.field-0.0 in
    let clash : limited c.in_ok-joined.joined ≡ Err IndexTooLong = search rules in
    let what : error ≡ Refused IndexTooLong c.place-place.result = search rules in
    let is : c.from_residual-in_err-left.result ≡ Err error = search rules in
    reads_err (more_summands (inner c.args.levels) c.args.levels most_items c.args.left c.args.tokens.now) c.from_residual-in_err-left.result error
    c.summand_after.new.tokens is
    (λ not. c.loop-turn.invariant
    ∙ sums_clashed (inner c.args.levels) c.args.levels most_items c.loop-turn._turn c.loop-turn.left c.in_ok-joined.joined i c.summand_after.new.tokens
    IndexTooLong c.is_sum_sign.result below test yes reads clash
    ∙ ap (λ e. Err e) (sym (what ∙ ap (λ p. Refused IndexTooLong p) place)))
