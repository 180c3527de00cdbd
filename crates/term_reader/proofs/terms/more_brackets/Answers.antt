use Rattle.std.proofs.Common.{rules, ◌≡◌, ◌≢◌, ◌∙◌, ◌+◌, ◌-◌, ◌<◌, true, Err, arith}
use Rattle.text_tokens.specs.declared.kind.Kind.TheVariants as k
use Rattle.text_tokens.specs.Kinds.{same_kind}
use Rattle.text_tokens.specs.Words.{next}
use Rattle.reader_laws.specs.declared.fault.ReadError.TheVariants.{Memory}
use Rattle.reader_laws.specs.Steps.{kind}
use Rattle.term_reader.specs.Frames.{entries_of}
use Rattle.term_reader.specs.Steps.{more_brackets, next_bracket}
use Rattle.term_reader.proofs.CodeLaws.{reads_err}
use Rattle.term_reader.proofs.TermCode.{brackets_fell}
use Rattle.term_reader.proofs.terms.more_brackets.Goals as goal

pub returns-in_err-left : goal.returns-in_err-left
returns-in_err-left c =
    let scope = entries_of c.args.scope.now in
    let is_bracket : same_kind (kind c.loop-turn.tokens) k.LBracket ≡ true = search rules in
    let below : c.loop-turn.turn < c.args.levels = omega (arith, c.loop-turn-test.true) in
    let error = c.in_err-left.field-0.0 in
    let reads : error ≢ Memory → next_bracket scope (c.args.levels - (c.loop-turn.turn + 1)) c.loop-turn.left (next c.loop-turn.tokens)
    ≡ Err error = search rules in
    let fails = brackets_fell scope c.args.levels c.args.levels c.loop-turn.turn c.loop-turn.left c.loop-turn.tokens error below is_bracket reads in
    let is : c.from_residual.result ≡ Err error = search rules in
    reads_err (more_brackets scope c.args.levels c.args.levels c.args.left c.args.tokens.now) c.from_residual.result error c.next_bracket.new.tokens is
    (λ not. c.loop-turn.invariant ∙ fails not)
