use Rattle.std.proofs.Common.{◌≡◌, ◌-◌, [], ◌++◌}
use Rattle.text_tokens.specs.declared.kind.Kind.TheVariants as k
use Rattle.reader_laws.specs.Chain.{repeated}
use Rattle.source_grammar.specs.Conditions.{with_last}
use Rattle.source_grammar.specs.Source.{input_names, most_lines}
use Rattle.declaration_reader.specs.Steps as steps
use Rattle.declaration_reader.proofs.inputs.inputs.Given as goal

abbrev pub invariant-loop-turn : goal.invariant-loop-turn
invariant-loop-turn l = record {
  reads : repeated k.Input with_last (steps.input_behind l.fn.names) most_lines [] l.fn.tokens ≡ repeated k.Input with_last (steps.input_behind l.fn.names)
      (most_lines - l._turn) l.found l.tokens;
  names : l.names ≡ l.fn.names ++ input_names l.found;
}
