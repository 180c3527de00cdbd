use Rattle.std.proofs.Common.{◌≡◌, ◌-◌, []}
use Rattle.text_tokens.specs.declared.kind.Kind.TheVariants as k
use Rattle.reader_laws.specs.Chain.{repeated}
use Rattle.schedule_script.specs.Words.{most_items, with_last}
use Rattle.schedule_script.specs.Steps.{final_line}
use Rattle.schedule_script.proofs.script.final_lines.Given as goal

abbrev pub invariant-loop-turn : goal.invariant-loop-turn
invariant-loop-turn l = repeated k.Goal with_last (λ _. final_line) most_items [] l.fn.tokens ≡ repeated k.Goal with_last (λ _. final_line)
    (most_items - l._turn) l.found l.tokens
