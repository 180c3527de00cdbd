use Rattle.std.proofs.Common.{append_assoc}
use Rattle.std.proofs.lemmas.Result.{IfOk-equal}
use Rattle.c_print.proofs.writer.Writer.put_heading.Goals as goal

pub returns : goal.returns
returns c = IfOk-equal _ _ _ _ c.put-3.ensures (rw (c.in_ok-put-2.ensures, c.in_ok-put.ensures) (simp append_assoc))
