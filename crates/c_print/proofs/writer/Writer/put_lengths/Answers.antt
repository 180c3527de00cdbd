use Rattle.std.proofs.Common.{append_assoc, ◌≤◌, ◌<◌, refl, arith, length, min}
use Rattle.loop_lang.specs.declared.word.Buf.TheVariants.{Input}
use Rattle.c_print.proofs.Loops.{lengths_more, lengths_all}
use Rattle.c_print.proofs.writer.Writer.put_lengths.Goals as goal

pub loop-i-preserved : goal.loop-i-preserved
loop-i-preserved c =
    let within : c.loop-i.i < length c.args.all.now = omega arith in
    let in_lengths : c.loop-i.i < length c.args.lengths.now = omega arith in
    rw (
      c.in_ok-put_length.ensures,
      c.loop-i.invariant,
      lengths_more c.args.sizes c.args.all.now c.args.lengths.now c.loop-i.i (Input 0) c.index-lengths-i.result within in_lengths c.index-lengths-i.is,
    )
    (simp append_assoc)

pub returns : goal.returns
returns c =
    let past : min (length c.args.all.now) (length c.args.lengths.now) ≤ c.loop-i.i = omega arith in
    rw (c.loop-i.invariant, lengths_all c.args.sizes c.args.all.now c.args.lengths.now c.loop-i.i past) refl
