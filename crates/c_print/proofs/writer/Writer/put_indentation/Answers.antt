use Rattle.std.proofs.Common.{append_assoc}
use Rattle.c_print.proofs.Loops.{indentation_more}
use Rattle.c_print.proofs.writer.Writer.put_indentation.Goals as goal

pub loop-done-preserved : goal.loop-done-preserved
loop-done-preserved c = rw (c.in_ok-put.ensures, c.loop-done.invariant, indentation_more) (simp append_assoc)
