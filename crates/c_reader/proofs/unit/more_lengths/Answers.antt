use Rattle.std.proofs.Common.{rules, ◌≡◌, ◌≢◌, ◌∙◌, true, Ok, Err, arith}
use Rattle.text_tokens.specs.Words.{peek}
use Rattle.reader_laws.specs.declared.fault.ReadError.TheVariants.{Memory}
use Rattle.c_read.specs.Units.{goes_length}
use Rattle.c_expression_reader.proofs.Answered.{reads_err}
use Rattle.c_reader.specs.Units.{heads_of, more_lengths, one_length}
use Rattle.c_reader.proofs.LengthTurns.{length_less, lengths_fell}
use Rattle.c_reader.proofs.unit.more_lengths.Goals as goal

pub returns-in_err-more : goal.returns-in_err-more
returns-in_err-more c =
    let goes : goes_length (peek c.loop-words.words) ≡ true = search rules in
    let error = c.in_err-more.field-0.0 in
    let reads : error ≢ Memory → one_length (heads_of c.loop-words.heads) c.loop-words.words ≡ Err error = search rules in
    let fails = lengths_fell (heads_of c.loop-words.heads) c.loop-words.words error goes reads in
    let is : c.from_residual.result ≡ Err error = search rules in
    reads_err (λ x. x) (more_lengths (heads_of c.args.heads) c.args.words.now) c.from_residual.result error c.one_length.new.words is
    (λ no. c.loop-words.invariant ∙ fails no)

pub loop-words-smaller : goal.loop-words-smaller
loop-words-smaller c =
    let reads : one_length (heads_of c.loop-words.heads) c.loop-words.words ≡ Ok (heads_of c.in_ok-more.more, c.one_length.new.words) = search rules in
    let less = length_less (heads_of c.loop-words.heads) (heads_of c.in_ok-more.more) c.loop-words.words c.one_length.new.words reads in
    omega (arith, less)
