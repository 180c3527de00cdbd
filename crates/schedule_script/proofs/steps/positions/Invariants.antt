use Rattle.std.proofs.Common.{◌≡◌, ◌-◌, []}
use Rattle.text_tokens.specs.declared.kind.Kind.TheVariants as k
use Rattle.reader_laws.specs.Chain.{repeated}
use Rattle.schedule_script.specs.Words.{most_items, with_last}
use Rattle.reader_laws.specs.Steps.{a_word}
use Rattle.schedule_script.specs.Words.{count_value}
use Rattle.schedule_script.proofs.steps.positions.Given as goal

abbrev pub invariant-loop-turn : goal.invariant-loop-turn
invariant-loop-turn l = repeated k.Dot with_last (λ _. a_word k.Number count_value) most_items [] l.fn.tokens ≡ repeated k.Dot with_last
    (λ _. a_word k.Number count_value) (most_items - l._turn) l.found l.tokens
