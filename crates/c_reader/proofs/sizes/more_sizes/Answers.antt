use Rattle.std.proofs.Common.{rules, ◌≡◌, ◌≢◌, ◌∙◌, true, Ok, Err, arith}
use Rattle.text_tokens.specs.declared.kind.Kind.TheVariants as k
use Rattle.text_tokens.specs.Kinds.{same_kind}
use Rattle.reader_laws.specs.declared.fault.ReadError.TheVariants.{Memory}
use Rattle.reader_laws.specs.Steps.{kind}
use Rattle.c_read.specs.Units.{one_size}
use Rattle.c_expression_reader.proofs.Answered.{reads_err}
use Rattle.c_reader.specs.Units.{more_sizes}
use Rattle.c_reader.proofs.SizeTurns.{size_less, sizes_fell}
use Rattle.c_reader.proofs.sizes.more_sizes.Goals as goal

pub returns-in_err-more : goal.returns-in_err-more
returns-in_err-more c =
    let goes : same_kind (kind c.loop-words.words) k.Comma ≡ true = search rules in
    let error = c.in_err-more.field-0.0 in
    let reads : error ≢ Memory → one_size c.loop-words.sizes c.loop-words.words ≡ Err error = search rules in
    let fails = sizes_fell c.loop-words.sizes c.loop-words.words error goes reads in
    let is : c.from_residual.result ≡ Err error = search rules in
    reads_err (λ x. x) (more_sizes c.args.sizes c.args.words.now) c.from_residual.result error c.one_size.new.words is
    (λ no. c.loop-words.invariant ∙ fails no)

pub loop-words-smaller : goal.loop-words-smaller
loop-words-smaller c =
    let reads : one_size c.loop-words.sizes c.loop-words.words ≡ Ok (c.in_ok-more.more, c.one_size.new.words) = search rules in
    let less = size_less c.loop-words.sizes c.in_ok-more.more c.loop-words.words c.one_size.new.words reads in
    omega (arith, less)
