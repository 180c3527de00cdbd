use Rattle.std.proofs.Common.{◌≡◌, ◌≢◌, ◌+◌, ◌-◌, ◌<◌, ◌≤◌, [], ◌∷◌, ◌++◌, length, take, Ok, Err, true, refl, sym, ap, ◌∙◌, arith, rules, append_assoc}
use Rattle.std.proofs.lemmas.List.{length-take-le}
use Rattle.text_tokens.specs.declared.kind.Kind.TheVariants as k
use Rattle.text_tokens.specs.Kinds.{same_kind}
use Rattle.text_tokens.specs.Words.{next}
use Rattle.reader_laws.specs.declared.fault.ReadError.TheVariants.{Memory}
use Rattle.reader_laws.specs.Steps.{kind}
use Rattle.reader_laws.specs.Chain.{repeated}
use Rattle.reader_laws.proofs.Repeated.{fell, went}
use Rattle.source_grammar.specs.Conditions.{with_last}
use Rattle.source_grammar.specs.Source.{most_lines, output_names}
use Rattle.term_reader.specs.Frames.{outermost}
use Rattle.term_reader.proofs.CodeLaws.{reads_err}
use Rattle.declaration_reader.specs.Steps as steps
use Rattle.declaration_reader.proofs.LineLaws.{base_scope, lines, output_line_is, outputs_named}
use Rattle.declaration_reader.proofs.outputs.more_outputs.Goals as goal

pub loop-turn-preserved : goal.loop-turn-preserved
loop-turn-preserved c =
    let names = c.args.names.now in
    let many = c.args.sizes + c.args.inputs in
    let base = take many names in
    let scope = outermost names c.args.sizes c.args.inputs in
    let found = c.loop-turn.found in
    let after = next c.loop-turn.tokens in
    let output = c.in_ok-output.output in
    let long = length-take-le many names c.requires.within in
    let all : many ≤ length base = omega (arith, long) in
    let sign : same_kind (kind c.loop-turn.tokens) k.Output ≡ true = search rules in
    let read : steps.output_line c.loop-turn.names (outermost c.loop-turn.names c.args.sizes c.args.inputs) after ≡ Ok (output, c.output_line.new.tokens) =
    search rules in
    let reads : steps.output_behind base scope found after ≡ Ok (output, c.output_line.new.tokens) =
    output_line_is names c.loop-turn.names base c.args.sizes c.args.inputs found after refl all c.loop-turn.invariant.names
    (base_scope names (output_names c.args.found) c.args.sizes c.args.inputs c.requires.names all) ∙ read in
    let most = lines in
    let below : c.loop-turn._turn < most_lines = omega (arith, most, c.loop-turn-test.true) in
    let pushed : c.push.new.self ≡ found ++ output ∷ [] = c.in_ok-push.ensures.ok ∙ ap (λ o. found ++ o ∷ []) c.into_inner.ensures in
    record {
      reads = c.loop-turn.invariant.reads ∙ went k.Output with_last (steps.output_behind base scope) most_lines c.loop-turn._turn found output
          c.loop-turn.tokens c.output_line.new.tokens below sign reads
          ∙ ap (λ x. repeated k.Output with_last (steps.output_behind base scope) (most_lines - (c.loop-turn._turn + 1)) x c.output_line.new.tokens)
          (sym pushed);
      names = c.in_ok-output.ensures.added ∙ ap (λ ns. ns ++ output.name ∷ []) c.loop-turn.invariant.names
          ∙ append_assoc base (output_names found) (output.name ∷ [])
          ∙ ap (λ ns. base ++ ns) (sym (outputs_named found output) ∙ ap output_names (sym pushed));
    }

pub returns-in_err-output : goal.returns-in_err-output
returns-in_err-output c =
    let names = c.args.names.now in
    let many = c.args.sizes + c.args.inputs in
    let base = take many names in
    let scope = outermost names c.args.sizes c.args.inputs in
    let found = c.loop-turn.found in
    let after = next c.loop-turn.tokens in
    let long = length-take-le many names c.requires.within in
    let all : many ≤ length base = omega (arith, long) in
    let sign : same_kind (kind c.loop-turn.tokens) k.Output ≡ true = search rules in
    let most = lines in
    let below : c.loop-turn._turn < most_lines = omega (arith, most, c.loop-turn-test.true) in
    let error = c.in_err-output.field-0.0 in
    let read : error ≢ Memory → steps.output_line c.loop-turn.names (outermost c.loop-turn.names c.args.sizes c.args.inputs) after ≡ Err error = search rules in
    let is : c.from_residual.result ≡ Err error = search rules in
    let same = output_line_is names c.loop-turn.names base c.args.sizes c.args.inputs found after refl all c.loop-turn.invariant.names
    (base_scope names (output_names c.args.found) c.args.sizes c.args.inputs c.requires.names all) in
    reads_err (steps.more_outputs base scope c.args.found c.args.tokens.now) c.from_residual.result error c.output_line.new.tokens is
    (λ not. c.loop-turn.invariant.reads ∙ fell k.Output with_last (steps.output_behind base scope) most_lines c.loop-turn._turn found c.loop-turn.tokens error
    below sign (same ∙ read not))
