use Rattle.std.proofs.Common.{◌≡◌, ◌++◌, ◌∙◌, List, [], ℕ, arith, get_or}
use Rattle.given_text.specs.Line.{output_line}
use Rattle.run_text.proofs.LineLaws.{text-more, word-list}
use Rattle.run_text.proofs.text.put_lists.Goals as goal

pub loop-at-preserved : goal.loop-at-preserved
loop-at-preserved c =
    let line : List ℕ → List ℕ → List ℕ = λ name words. c.loop-at.text.items ++ output_line name words in
    let words : c.index-outputs-at.result ≡ get_or c.args.outputs.now c.loop-at.at [] =
    word-list c.args.outputs.now c.loop-at.at c.index-outputs-at.result (omega (arith, c.loop-at-test.true, c.requires)) c.index-outputs-at.is in
    text-more c.args.names.now c.args.outputs.now c.loop-at.at c.index-names-at.result c.args.text.now.items c.loop-at.text.items
    c.put_line.new.text.items c.loop-at-test.true c.index-names-at.is c.loop-at.invariant
    (c.in_ok-put_line.ensures ∙ (λ i. line (c.as_str.ensures.value i) ((c.as_slice.ensures ∙ words) i)))
