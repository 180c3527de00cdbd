use Rattle.std.proofs.Common.{append_assoc}
use Rattle.std.proofs.lemmas.Result.{IfOk-equal}
use Rattle.c_print.proofs.writer.Writer.put_loop_start.Goals as goal

pub returns : goal.returns
returns c = IfOk-equal _ _ _ _ c.put_index.ensures (rw (c.in_ok-put.ensures, c.in_ok-put_loop-2.ensures, c.in_ok-put_loop.ensures) (simp append_assoc))
