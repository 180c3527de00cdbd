use Rattle.std.proofs.Common.{rules, ◌≡◌, ◌≢◌, ◌∙◌, false, Err}
use Rattle.text_tokens.specs.Spelled.{token_of, tokens_of}
use Rattle.text_tokens.specs.Words.{is_nil, peek}
use Rattle.reader_laws.specs.declared.fault.ReadError.TheVariants.{Memory}
use Rattle.c_read.specs.Parts.{exactly, expect_all}
use Rattle.c_expression_reader.proofs.Answered.{reads_err}
use Rattle.c_reader.proofs.Models.{model_fell}
use Rattle.c_reader.proofs.parameters.same_words.Goals as goal

pub returns-in_err-expect : goal.returns-in_err-expect
returns-in_err-expect c =
    let left : is_nil c.loop-model.model.words ≡ false = search rules in
    let error = c.in_err-expect.field-0.0 in
    let reads : error ≢ Memory → exactly (token_of (peek c.loop-model.model)) c.loop-model.words ≡ Err error = search rules in
    let fails = model_fell c.loop-model.model c.loop-model.words error left reads in
    let is : c.from_residual.result ≡ Err error = search rules in
    reads_err (λ x. x) (expect_all (tokens_of c.args.model.words) c.args.words.now) c.from_residual.result error c.expect.new.words is
    (λ other. c.loop-model.invariant ∙ fails other)
