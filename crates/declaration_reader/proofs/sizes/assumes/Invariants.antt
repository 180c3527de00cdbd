use Rattle.std.proofs.Common.{◌≡◌, ◌-◌, []}
use Rattle.text_tokens.specs.declared.kind.Kind.TheVariants as k
use Rattle.reader_laws.specs.Chain.{repeated}
use Rattle.source_grammar.specs.Source.{most_lines, with_all}
use Rattle.term_reader.specs.Frames.{entries_of}
use Rattle.declaration_reader.specs.Steps as steps
use Rattle.declaration_reader.proofs.sizes.assumes.Given as goal

abbrev pub invariant-loop-turn : goal.invariant-loop-turn
invariant-loop-turn l =
    repeated k.Assume with_all (λ _. steps.assume (entries_of l.scope)) most_lines [] l.fn.tokens
    ≡ repeated k.Assume with_all (λ _. steps.assume (entries_of l.scope)) (most_lines - l._turn) l.found l.tokens
