use Rattle.std.proofs.Common.{◌≡◌, ◌-◌, []}
use Rattle.text_tokens.specs.declared.kind.Kind.TheVariants as k
use Rattle.reader_laws.specs.Chain.{repeated}
use Rattle.schedule_script.specs.Words.{most_steps, with_last}
use Rattle.schedule_script.specs.Steps.{step}
use Rattle.schedule_script.proofs.script.steps.Given as goal

abbrev pub invariant-loop-turn : goal.invariant-loop-turn
invariant-loop-turn l = repeated k.At with_last (λ _. step) most_steps [] l.fn.tokens ≡ repeated k.At with_last (λ _. step)
    (most_steps - l._turn) l.found l.tokens
