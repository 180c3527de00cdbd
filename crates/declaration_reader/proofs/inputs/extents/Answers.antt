use Rattle.std.proofs.Common.{◌≡◌, ◌+◌, ◌-◌, ◌<◌, Ok, true, sym, ap, ◌∙◌, arith, rules}
use Rattle.text_tokens.specs.declared.kind.Kind.TheVariants as k
use Rattle.text_tokens.specs.Kinds.{same_kind}
use Rattle.text_tokens.specs.Words.{next}
use Rattle.reader_laws.specs.Steps.{kind}
use Rattle.reader_laws.specs.Chain.{repeated}
use Rattle.reader_laws.proofs.Repeated.{went}
use Rattle.source_grammar.specs.Conditions.{with_last}
use Rattle.source_grammar.specs.Source.{most_lines}
use Rattle.term_reader.specs.Frames.{entries_of}
use Rattle.declaration_reader.specs.Steps as steps
use Rattle.declaration_reader.proofs.LineLaws.{lines}
use Rattle.declaration_reader.proofs.inputs.extents.Goals as goal

pub loop-turn-preserved : goal.loop-turn-preserved
loop-turn-preserved c =
    let scope = entries_of c.args.scope.now in
    let sign : same_kind (kind c.loop-turn.tokens) k.LBracket ≡ true = search rules in
    let reads : steps.extent_of scope (next c.loop-turn.tokens) ≡ Ok (c.in_ok-extent.extent, c.extent.new.tokens) = search rules in
    let most = lines in
    let below : c.loop-turn._turn < most_lines = omega (arith, most, c.loop-turn-test.true) in
    c.loop-turn.invariant
    ∙ went k.LBracket with_last (λ _. steps.extent_of scope) most_lines c.loop-turn._turn c.loop-turn.found c.in_ok-extent.extent c.loop-turn.tokens
    c.extent.new.tokens below sign reads
    ∙ ap (λ x. repeated k.LBracket with_last (λ _. steps.extent_of scope) (most_lines - (c.loop-turn._turn + 1)) x c.extent.new.tokens)
    (sym c.in_ok-push.ensures.ok)
