use Rattle.std.proofs.Common.{◌≡◌, ◌+◌, ◌-◌, ◌∙◌, ap, arith, length, sym}
use Rattle.loop_lang.specs.declared.word.Buf.TheVariants.{Input}
use Rattle.lowering.proofs.FormLaws.{input-buffer, let-buffer, numbered-at, numbered-none}
use Rattle.lowering.proofs.words.buffer_at.Goals as goal

pub returns-then-number-lets : goal.returns-then-number-lets
returns-then-number-lets c = sym (let-buffer c.args.shapes.now.lets c.args.shapes.now.inputs c.args.var (omega arith))

pub returns-then-number-len : goal.returns-then-number-len
returns-then-number-len c =
    let lets = c.args.shapes.now.lets in
    let inputs = c.args.shapes.now.inputs in
    let q = c.args.var in
    let e : q - c.len-lets.result ≡ 0 + (q - length lets) = omega arith in
    ap Input e ∙ sym (input-buffer lets inputs q (omega arith) ∙ numbered-at 0 inputs (q - length lets) (omega arith))

pub returns-else-number-len : goal.returns-else-number-len
returns-else-number-len c =
    let lets = c.args.shapes.now.lets in
    let inputs = c.args.shapes.now.inputs in
    let q = c.args.var in
    sym (input-buffer lets inputs q (omega arith) ∙ numbered-none 0 inputs (q - length lets) (omega arith))
