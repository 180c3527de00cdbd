use Rattle.std.proofs.Common.{rules, ◌≡◌, ◌≢◌, ◌∙◌, ◌<◌, true, Some, Err, arith}
use Rattle.text_tokens.specs.declared.kind.Kind.TheVariants as k
use Rattle.text_tokens.specs.Kinds.{same_kind}
use Rattle.text_tokens.specs.Words.{next}
use Rattle.reader_laws.specs.declared.fault.ReadError.TheVariants.{Memory}
use Rattle.reader_laws.specs.Steps.{kind}
use Rattle.source_grammar.specs.Terms.{max_chain, sum_sign}
use Rattle.term_reader.specs.Forms.{signed_term}
use Rattle.term_reader.specs.Frames.{entries_of}
use Rattle.term_reader.specs.Steps.{more_factors, more_terms, next_factor, next_term}
use Rattle.term_reader.proofs.CodeLaws.{reads_err}
use Rattle.term_reader.proofs.TermCode.{chain_limit, factors_fell, terms_fell}
use Rattle.term_reader.proofs.terms.+descent.Goals as goal

pub more_factors-returns-in_err-left : goal.more_factors-returns-in_err-left
more_factors-returns-in_err-left t c =
    let scope = entries_of c.args.scope.now in
    let limit = chain_limit in
    let is_star : same_kind (kind c.loop-turn.tokens) k.Star ≡ true = search rules in
    let below : c.loop-turn._turn < max_chain = omega (arith, limit, c.loop-turn-test.true) in
    let some : 0 < c.args.levels = search rules in
    let error = c.in_err-left.field-0.0 in
    let reads : error ≢ Memory → next_factor scope c.args.levels c.loop-turn.left (next c.loop-turn.tokens) ≡ Err error = search rules in
    let fails = factors_fell scope c.args.levels max_chain c.loop-turn._turn c.loop-turn.left c.loop-turn.tokens error below some is_star reads in
    let is : c.from_residual.result ≡ Err error = search rules in
    reads_err (more_factors scope c.args.levels max_chain c.args.left c.args.tokens.now) c.from_residual.result error c.next_factor.new.tokens is
    (λ not. c.loop-turn.invariant ∙ fails not)

pub more_terms-returns-in_err-left : goal.more_terms-returns-in_err-left
more_terms-returns-in_err-left t c =
    let scope = entries_of c.args.scope.now in
    let limit = chain_limit in
    let is_sign : sum_sign (kind c.loop-turn.tokens) ≡ Some (signed_term c.in-Some.sign) = search rules in
    let below : c.loop-turn._turn < max_chain = omega (arith, limit, c.loop-turn-test.true) in
    let some : 0 < c.args.levels = search rules in
    let error = c.in_err-left.field-0.0 in
    let reads : error ≢ Memory → next_term scope c.args.levels c.loop-turn.left c.in-Some.sign (next c.loop-turn.tokens) ≡ Err error = search rules in
    let fails = terms_fell scope c.args.levels max_chain c.loop-turn._turn c.loop-turn.left c.in-Some.sign c.loop-turn.tokens error below some is_sign reads in
    let is : c.from_residual.result ≡ Err error = search rules in
    reads_err (more_terms scope c.args.levels max_chain c.args.left c.args.tokens.now) c.from_residual.result error c.next_term.new.tokens is
    (λ not. c.loop-turn.invariant ∙ fails not)
