use Rattle.std.proofs.Common.{◌≡◌, ◌≢◌, ◌+◌, ◌-◌, ◌<◌, [], ◌∷◌, ◌++◌, Ok, Err, true, sym, ap, ◌∙◌, arith, rules, append_assoc}
use Rattle.text_tokens.specs.declared.kind.Kind.TheVariants as k
use Rattle.text_tokens.specs.Kinds.{same_kind}
use Rattle.text_tokens.specs.Words.{next}
use Rattle.reader_laws.specs.declared.fault.ReadError.TheVariants.{Memory}
use Rattle.reader_laws.specs.Steps.{kind}
use Rattle.reader_laws.specs.Chain.{repeated}
use Rattle.reader_laws.proofs.Repeated.{fell, went}
use Rattle.source_grammar.specs.Conditions.{with_last}
use Rattle.source_grammar.specs.Source.{input_names, most_lines}
use Rattle.term_reader.specs.Frames.{outermost}
use Rattle.term_reader.proofs.CodeLaws.{reads_err}
use Rattle.declaration_reader.specs.Steps as steps
use Rattle.declaration_reader.proofs.LineLaws.{input_line_is, inputs_named, lines}
use Rattle.declaration_reader.proofs.inputs.inputs.Goals as goal

pub loop-turn-preserved : goal.loop-turn-preserved
loop-turn-preserved c =
    let names = c.args.names.now in
    let found = c.loop-turn.found in
    let after = next c.loop-turn.tokens in
    let input = c.in_ok-input.input in
    let sign : same_kind (kind c.loop-turn.tokens) k.Input ≡ true = search rules in
    let read : steps.input_line c.loop-turn.names (outermost c.loop-turn.names c.args.sizes 0) after ≡ Ok (input, c.input_line.new.tokens) = search rules in
    let reads : steps.input_behind names found after ≡ Ok (input, c.input_line.new.tokens) =
    input_line_is names c.loop-turn.names c.args.sizes found after c.requires c.loop-turn.invariant.names ∙ read in
    let most = lines in
    let below : c.loop-turn._turn < most_lines = omega (arith, most, c.loop-turn-test.true) in
    let pushed = c.in_ok-push.ensures.ok in
    record {
      reads = c.loop-turn.invariant.reads ∙ went k.Input with_last (steps.input_behind names) most_lines c.loop-turn._turn found input c.loop-turn.tokens
          c.input_line.new.tokens below sign reads
          ∙ ap (λ x. repeated k.Input with_last (steps.input_behind names) (most_lines - (c.loop-turn._turn + 1)) x c.input_line.new.tokens) (sym pushed);
      names = c.in_ok-input.ensures.added ∙ ap (λ ns. ns ++ input.name ∷ []) c.loop-turn.invariant.names
          ∙ append_assoc names (input_names found) (input.name ∷ [])
          ∙ ap (λ ns. names ++ ns) (sym (inputs_named found input) ∙ ap input_names (sym pushed));
    }

pub returns-in_err-input-clause-reads : goal.returns-in_err-input-clause-reads
returns-in_err-input-clause-reads c =
    let names = c.args.names.now in
    let found = c.loop-turn.found in
    let after = next c.loop-turn.tokens in
    let sign : same_kind (kind c.loop-turn.tokens) k.Input ≡ true = search rules in
    let most = lines in
    let below : c.loop-turn._turn < most_lines = omega (arith, most, c.loop-turn-test.true) in
    let error = c.in_err-input.field-0.0 in
    let read : error ≢ Memory → steps.input_line c.loop-turn.names (outermost c.loop-turn.names c.args.sizes 0) after ≡ Err error = search rules in
    let is : c.from_residual.result ≡ Err error = search rules in
    reads_err (steps.inputs names c.args.tokens.now) c.from_residual.result error c.input_line.new.tokens is
    (λ not. c.loop-turn.invariant.reads ∙ fell k.Input with_last (steps.input_behind names) most_lines c.loop-turn._turn found c.loop-turn.tokens error below
    sign
    (input_line_is names c.loop-turn.names c.args.sizes found after c.requires c.loop-turn.invariant.names ∙ read not))
