use Rattle.std.proofs.Common.{rules, ◌≡◌, ◌≢◌, ◌∙◌, false, Ok, Err, arith}
use Rattle.text_tokens.specs.declared.kind.Kind.TheVariants as k
use Rattle.text_tokens.specs.Kinds.{same_kind}
use Rattle.reader_laws.specs.declared.fault.ReadError.TheVariants.{Memory}
use Rattle.reader_laws.specs.Steps.{kind}
use Rattle.c_read.specs.Scopes.{scope_of}
use Rattle.c_expression_reader.proofs.Answered.{reads_err}
use Rattle.c_statement_reader.specs.Statements.{inner_statement, more_statements}
use Rattle.c_statement_reader.proofs.Blocks.{statement_takes, statements_fell}
use Rattle.c_statement_reader.proofs.statements.+nesting.Goals as goal

pub more_statements-returns-in_err-one : goal.more_statements-returns-in_err-one
more_statements-returns-in_err-one t c =
    let scope = scope_of c.args.names in
    let goes : same_kind (kind c.loop-names.words) k.RBrace ≡ false = search rules in
    let error = c.in_err-one.field-0.0 in
    let reads : error ≢ Memory → inner_statement c.args.levels scope c.args.around c.loop-names.words ≡ Err error = search rules in
    let fails = statements_fell scope c.args.levels c.args.around c.loop-names.done c.loop-names.words error goes reads in
    let is : c.from_residual.result ≡ Err error = search rules in
    reads_err (λ x. x) (more_statements (inner_statement c.args.levels) c.args.levels scope c.args.around c.args.done c.args.words.now) c.from_residual.result
    error c.statement.new.words is (λ no. c.loop-names.invariant ∙ fails no)

pub more_statements-loop-names-smaller : goal.more_statements-loop-names-smaller
more_statements-loop-names-smaller t c =
    let scope = scope_of c.args.names in
    let reads : inner_statement c.args.levels scope c.args.around c.loop-names.words ≡ Ok (c.in_ok-one.one, c.statement.new.words) = search rules in
    let less = statement_takes scope c.args.levels c.args.around c.in_ok-one.one c.loop-names.words c.statement.new.words reads in
    omega (arith, less)
