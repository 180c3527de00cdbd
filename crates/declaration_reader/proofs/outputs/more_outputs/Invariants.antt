use Rattle.std.proofs.Common.{◌≡◌, ◌+◌, ◌-◌, ◌++◌, take}
use Rattle.text_tokens.specs.declared.kind.Kind.TheVariants as k
use Rattle.reader_laws.specs.Chain.{repeated}
use Rattle.source_grammar.specs.Conditions.{with_last}
use Rattle.source_grammar.specs.Source.{most_lines, output_names}
use Rattle.term_reader.specs.Frames.{outermost}
use Rattle.declaration_reader.specs.Steps as steps
use Rattle.declaration_reader.proofs.outputs.more_outputs.Given as goal

abbrev pub invariant-loop-turn : goal.invariant-loop-turn
invariant-loop-turn l = record {
  reads : repeated k.Output with_last (steps.output_behind (take (l.sizes + l.inputs) l.fn.names) (outermost l.fn.names l.sizes l.inputs)) most_lines l.fn.found
      l.fn.tokens
      ≡ repeated k.Output with_last (steps.output_behind (take (l.sizes + l.inputs) l.fn.names) (outermost l.fn.names l.sizes l.inputs)) (most_lines - l._turn)
      l.found l.tokens;
  names : l.names ≡ take (l.sizes + l.inputs) l.fn.names ++ output_names l.found;
}
