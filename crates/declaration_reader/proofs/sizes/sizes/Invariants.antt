use Rattle.std.proofs.Common.{◌≡◌, ◌-◌, []}
use Rattle.text_tokens.specs.declared.kind.Kind.TheVariants as k
use Rattle.reader_laws.specs.Chain.{repeated}
use Rattle.source_grammar.specs.Conditions.{with_last}
use Rattle.source_grammar.specs.ReadSource as spec
use Rattle.source_grammar.specs.Source.{most_lines, size_names}
use Rattle.declaration_reader.proofs.sizes.sizes.Given as goal

abbrev pub invariant-loop-turn : goal.invariant-loop-turn
invariant-loop-turn l = record {
  reads : repeated k.Size with_last spec.size_line most_lines [] l.fn.tokens ≡ repeated k.Size with_last spec.size_line (most_lines - l._turn) l.found l.tokens;
  names : l.names ≡ size_names l.found;
}
