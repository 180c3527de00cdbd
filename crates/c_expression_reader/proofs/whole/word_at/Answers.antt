use Rattle.std.proofs.Common.{rules, ◌≡◌, Ok}
use Rattle.text_tokens.specs.Words.{peek}
use Rattle.c_print.specs.declared.level.Level.TheVariants.{Choice}
use Rattle.c_read.specs.Parts.{checked}
use Rattle.c_read.specs.Expressions as reading
use Rattle.c_read.specs.Scopes.{scope_of}
use Rattle.c_expression_reader.specs.Values.{value_of}
use Rattle.c_expression_reader.specs.Expressions.{checked_at, choice, inner}
use Rattle.c_expression_reader.proofs.Answered.{checked_reads, reads_same}
use Rattle.c_expression_reader.proofs.Same.{word_is}
use Rattle.c_expression_reader.proofs.whole.word_at.Goals as goal

pub returns : goal.returns
returns c =
    let scope = scope_of c.args.names in
    let i = c.args.words.now in
    let read = choice scope (inner scope c.args.levels) c.args.levels in
    let reads : choice scope (inner scope c.args.levels) c.args.levels c.args.words.now
    ≡ Ok (value_of c.in_ok-value.value, c.choice.new.words) = search rules in
    let stands : c.place-place.result ≡ (peek c.args.words.now).place = search rules in
    reads_same (λ x. x) (checked_at reading.as_word read i) (checked reading.as_word (reading.expression scope c.args.levels Choice) i) c.as_word.result
    c.choice.new.words (word_is scope c.args.levels i)
    (checked_reads reading.as_word read i c.choice.new.words (value_of c.in_ok-value.value) c.place-place.result c.as_word.result reads stands
    c.as_word.ensures)
