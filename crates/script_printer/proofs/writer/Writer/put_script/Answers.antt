use Rattle.std.proofs.Common.{append_assoc}
use Rattle.std.proofs.lemmas.Result.{IfOk-equal}
use Rattle.script_printer.proofs.writer.Writer.put_script.Goals as goal

pub returns : goal.returns
returns c = IfOk-equal _ _ _ _ c.put_body.ensures (rw (c.in_ok-put.ensures) (simp append_assoc))
