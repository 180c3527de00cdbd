use Rattle.std.proofs.Common.{rules, ◌≡◌, ◌≢◌, ◌∙◌, ◌<◌, Err, arith}
use Rattle.reader_laws.specs.declared.fault.ReadError.TheVariants.{Memory}
use Rattle.c_expression_reader.proofs.Answered.{reads_err}
use Rattle.c_reader.specs.Units.{group_tokens, many, parameter}
use Rattle.c_reader.proofs.Lists.{many_fell}
use Rattle.c_reader.proofs.parameters.many.Goals as goal

pub returns-in_err-parameter : goal.returns-in_err-parameter
returns-in_err-parameter c =
    let tokens = group_tokens c.args.group in
    let few : c.loop-number.number < c.args.count = omega (arith, c.loop-number-test.true) in
    let error = c.in_err-parameter.field-0.0 in
    let reads : error ≢ Memory → parameter c.loop-number.first (tokens c.loop-number.number) c.loop-number.words ≡ Err error = search rules in
    let fails = many_fell tokens c.loop-number.first c.args.count c.loop-number.number c.loop-number.words error few reads in
    let is : c.from_residual.result ≡ Err error = search rules in
    reads_err (λ x. x) (many tokens c.args.first 0 c.args.count c.args.words.now) c.from_residual.result error c.parameter.new.words is
    (λ no. c.loop-number.invariant ∙ fails no)
