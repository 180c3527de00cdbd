use Rattle.std.proofs.Common.{◌≡◌, ◌-◌}
use Rattle.text_tokens.specs.declared.kind.Kind.TheVariants as k
use Rattle.reader_laws.specs.Chain.{repeated}
use Rattle.source_grammar.specs.Conditions.{most_comparisons, with_last}
use Rattle.source_grammar.specs.ReadConditions as spec
use Rattle.term_reader.specs.Names.{named}
use Rattle.term_reader.proofs.conditions.more_comparisons.Given as goal

abbrev pub invariant-loop-turn : goal.invariant-loop-turn
invariant-loop-turn l =
    repeated k.And with_last (λ _. spec.comparison (named l.names) l.levels) most_comparisons l.fn.found l.fn.tokens
    ≡ repeated k.And with_last (λ _. spec.comparison (named l.names) l.levels) (most_comparisons - l._turn) l.found l.tokens
