use Rattle.std.proofs.Common.{◌≡◌, ◌+◌, ◌-◌, ◌<◌, Ok, true, sym, ap, ◌∙◌, arith, rules}
use Rattle.text_tokens.specs.declared.kind.Kind.TheVariants as k
use Rattle.text_tokens.specs.Kinds.{same_kind}
use Rattle.text_tokens.specs.Words.{next}
use Rattle.reader_laws.specs.Steps.{kind}
use Rattle.reader_laws.specs.Chain.{repeated}
use Rattle.reader_laws.proofs.Repeated.{went}
use Rattle.schedule_script.specs.Words.{most_items, with_last}
use Rattle.reader_laws.specs.Steps.{a_word}
use Rattle.schedule_script.specs.Words.{count_value}
use Rattle.schedule_script.proofs.Loops as loops
use Rattle.schedule_script.proofs.steps.positions.Goals as goal

pub loop-turn-preserved : goal.loop-turn-preserved
loop-turn-preserved c =
    let sign : same_kind (kind c.loop-turn.tokens) k.Dot ≡ true = search rules in
    let reads : a_word k.Number count_value (next c.loop-turn.tokens) ≡ Ok (c.in_ok-position.position, c.count.new.tokens) = search rules in
    let most = loops.items in
    let below : c.loop-turn._turn < most_items = omega (arith, most, c.loop-turn-test.true) in
    c.loop-turn.invariant ∙ went k.Dot with_last
    (λ _. a_word k.Number count_value) most_items c.loop-turn._turn c.loop-turn.found c.in_ok-position.position c.loop-turn.tokens c.count.new.tokens
    below sign reads
    ∙ ap (λ x. repeated k.Dot with_last (λ _. a_word k.Number count_value) (most_items - (c.loop-turn._turn + 1)) x c.count.new.tokens)
    (sym c.in_ok-push.ensures.ok)
