use Rattle.std.proofs.Common.{◌++◌, ◌∙◌, List, ℕ}
use Rattle.given_text.specs.Line.{output_line}
use Rattle.run_text.proofs.LineLaws.{text-more}
use Rattle.run_text.proofs.text.put_outputs.Goals as goal

pub loop-at-preserved : goal.loop-at-preserved
loop-at-preserved c =
    let line : List ℕ → List ℕ → List ℕ = λ name words. c.loop-at.text.items ++ output_line name words in
    text-more c.args.names.now c.args.buffers.now.memory.outputs c.loop-at.at c.index-names-at.result c.args.text.now.items c.loop-at.text.items
    c.put_line.new.text.items c.loop-at-test.true c.index-names-at.is c.loop-at.invariant
    (c.in_ok-put_line.ensures ∙ (λ i. line (c.as_str.ensures.value i) (c.words-words.ensures i)))
