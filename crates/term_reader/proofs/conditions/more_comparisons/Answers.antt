use Rattle.std.proofs.Common.{◌≡◌, ◌+◌, ◌-◌, ◌<◌, Ok, true, sym, ap, ◌∙◌, arith, rules}
use Rattle.text_tokens.specs.declared.kind.Kind.TheVariants as k
use Rattle.text_tokens.specs.Kinds.{same_kind}
use Rattle.text_tokens.specs.Words.{next}
use Rattle.reader_laws.specs.Steps.{kind}
use Rattle.reader_laws.specs.Chain.{repeated}
use Rattle.reader_laws.proofs.Repeated.{went}
use Rattle.source_grammar.specs.Conditions.{most_comparisons, with_last}
use Rattle.source_grammar.specs.ReadConditions as spec
use Rattle.term_reader.specs.Names.{named}
use Rattle.term_reader.proofs.ConditionCode.{comparison_limit}
use Rattle.term_reader.proofs.conditions.more_comparisons.Goals as goal

pub loop-turn-preserved : goal.loop-turn-preserved
loop-turn-preserved c =
    let names = named c.args.names.now in
    let sign : same_kind (kind c.loop-turn.tokens) k.And ≡ true = search rules in
    let reads : spec.comparison names c.args.levels (next c.loop-turn.tokens) ≡ Ok (c.in_ok-next.next, c.comparison.new.tokens) = search rules in
    let most = comparison_limit in
    let below : c.loop-turn._turn < most_comparisons = omega (arith, most, c.loop-turn-test.true) in
    c.loop-turn.invariant
    ∙ went k.And with_last (λ _. spec.comparison names c.args.levels) most_comparisons c.loop-turn._turn c.loop-turn.found c.in_ok-next.next c.loop-turn.tokens
    c.comparison.new.tokens below sign reads
    ∙ ap (λ x. repeated k.And with_last (λ _. spec.comparison names c.args.levels) (most_comparisons - (c.loop-turn._turn + 1)) x c.comparison.new.tokens)
    (sym c.in_ok-push.ensures.ok)
