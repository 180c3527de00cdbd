use Rattle.std.proofs.Common.{◌≡◌, ◌+◌, ◌-◌, ◌<◌, [], ◌∷◌, ◌++◌, Ok, true, sym, ap, ◌∙◌, arith, rules}
use Rattle.text_tokens.specs.declared.kind.Kind.TheVariants as k
use Rattle.text_tokens.specs.Kinds.{same_kind}
use Rattle.text_tokens.specs.Words.{next}
use Rattle.reader_laws.specs.Steps.{kind}
use Rattle.reader_laws.specs.Chain.{repeated}
use Rattle.reader_laws.proofs.Repeated.{went}
use Rattle.source_grammar.specs.Conditions.{with_last}
use Rattle.source_grammar.specs.ReadSource as spec
use Rattle.source_grammar.specs.Source.{most_lines, size_names}
use Rattle.declaration_reader.specs.Steps as steps
use Rattle.declaration_reader.proofs.LineLaws.{lines, size_line_is, sizes_named}
use Rattle.declaration_reader.proofs.sizes.sizes.Goals as goal

pub loop-turn-preserved : goal.loop-turn-preserved
loop-turn-preserved c =
    let found = c.loop-turn.found in
    let after = next c.loop-turn.tokens in
    let size = c.in_ok-size.size in
    let sign : same_kind (kind c.loop-turn.tokens) k.Size ≡ true = search rules in
    let read : steps.size_line c.loop-turn.names after ≡ Ok (size, c.size_line.new.tokens) = search rules in
    let reads : spec.size_line found after ≡ Ok (size, c.size_line.new.tokens) =
    size_line_is found after ∙ ap (λ ns. steps.size_line ns after) (sym c.loop-turn.invariant.names) ∙ read in
    let most = lines in
    let below : c.loop-turn._turn < most_lines = omega (arith, most, c.loop-turn-test.true) in
    let pushed = c.in_ok-push.ensures.ok in
    record {
      reads = c.loop-turn.invariant.reads ∙ went k.Size with_last spec.size_line most_lines c.loop-turn._turn found size c.loop-turn.tokens
          c.size_line.new.tokens below sign reads
          ∙ ap (λ x. repeated k.Size with_last spec.size_line (most_lines - (c.loop-turn._turn + 1)) x c.size_line.new.tokens) (sym pushed);
      names = c.in_ok-size.ensures.added ∙ ap (λ ns. ns ++ size.name ∷ []) c.loop-turn.invariant.names ∙ sym (sizes_named found size)
          ∙ ap size_names (sym pushed);
    }
