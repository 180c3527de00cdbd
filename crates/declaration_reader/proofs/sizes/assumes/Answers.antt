use Rattle.std.proofs.Common.{◌≡◌, ◌+◌, ◌-◌, ◌<◌, Ok, true, sym, ap, ◌∙◌, arith, rules}
use Rattle.text_tokens.specs.declared.kind.Kind.TheVariants as k
use Rattle.text_tokens.specs.Kinds.{same_kind}
use Rattle.text_tokens.specs.Words.{next}
use Rattle.reader_laws.specs.Steps.{kind}
use Rattle.reader_laws.specs.Chain.{repeated}
use Rattle.reader_laws.proofs.Repeated.{went}
use Rattle.source_grammar.specs.Source.{most_lines, with_all}
use Rattle.term_reader.specs.Frames.{entries_of}
use Rattle.declaration_reader.specs.Steps as steps
use Rattle.declaration_reader.proofs.LineLaws.{lines}
use Rattle.declaration_reader.proofs.sizes.assumes.Goals as goal

pub loop-turn-preserved : goal.loop-turn-preserved
loop-turn-preserved c =
    let scope = entries_of c.args.scope.now in
    let sign : same_kind (kind c.loop-turn.tokens) k.Assume ≡ true = search rules in
    let reads : steps.assume scope (next c.loop-turn.tokens) ≡ Ok (c.in_ok-condition.condition, c.assume.new.tokens) = search rules in
    let most = lines in
    let below : c.loop-turn._turn < most_lines = omega (arith, most, c.loop-turn-test.true) in
    c.loop-turn.invariant
    ∙ went k.Assume with_all (λ _. steps.assume scope) most_lines c.loop-turn._turn c.loop-turn.found c.in_ok-condition.condition c.loop-turn.tokens
    c.assume.new.tokens below sign reads
    ∙ ap (λ x. repeated k.Assume with_all (λ _. steps.assume scope) (most_lines - (c.loop-turn._turn + 1)) x c.assume.new.tokens) (sym c.in_ok-append.ensures)
