use Rattle.std.proofs.Common.{append_assoc, ◌≤◌, arith}
use Rattle.c_print.proofs.Loops.{sizes_more}
use Rattle.c_print.proofs.writer.Writer.put_further_sizes.Goals as goal

pub loop-size-preserved : goal.loop-size-preserved
loop-size-preserved c =
    let later : 1 ≤ c.loop-size.size = omega arith in
    rw (c.in_ok-put_size_parameter.ensures, c.loop-size.invariant, sizes_more c.loop-size.size later) (simp append_assoc)
