use Rattle.std.proofs.Common.{◌≡◌, ◌-◌, []}
use Rattle.text_tokens.specs.declared.kind.Kind.TheVariants as k
use Rattle.reader_laws.specs.Chain.{repeated}
use Rattle.schedule_script.specs.Words.{most_items, with_last}
use Rattle.schedule_script.specs.Steps.{certificate}
use Rattle.schedule_script.proofs.steps.certificates.Given as goal

abbrev pub invariant-loop-turn : goal.invariant-loop-turn
invariant-loop-turn l = repeated k.By with_last (λ _. certificate) most_items [] l.fn.tokens ≡ repeated k.By with_last (λ _. certificate)
    (most_items - l._turn) l.found l.tokens
