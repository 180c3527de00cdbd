use Rattle.std.proofs.Common.{◌≡◌, ◌-◌, []}
use Rattle.text_tokens.specs.declared.kind.Kind.TheVariants as k
use Rattle.reader_laws.specs.Chain.{repeated}
use Rattle.source_grammar.specs.Conditions.{with_last}
use Rattle.source_grammar.specs.Source.{most_lines}
use Rattle.term_reader.specs.Frames.{entries_of}
use Rattle.declaration_reader.specs.Steps as steps
use Rattle.declaration_reader.proofs.inputs.extents.Given as goal

abbrev pub invariant-loop-turn : goal.invariant-loop-turn
invariant-loop-turn l =
    repeated k.LBracket with_last (λ _. steps.extent_of (entries_of l.scope)) most_lines [] l.fn.tokens
    ≡ repeated k.LBracket with_last (λ _. steps.extent_of (entries_of l.scope)) (most_lines - l._turn) l.found l.tokens
