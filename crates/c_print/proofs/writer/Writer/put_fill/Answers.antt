use Rattle.std.proofs.Common.{append_assoc}
use Rattle.std.proofs.lemmas.Result.{IfOk-equal}
use Rattle.c_print.proofs.writer.Writer.put_fill.Goals as goal

pub returns : goal.returns
returns c =
    IfOk-equal _ _ _ _ c.put-4.ensures
    (rw (
      c.in_ok-put_index-2.ensures,
      c.in_ok-put-3.ensures,
      c.in_ok-put_index.ensures,
      c.in_ok-put-2.ensures,
      c.in_ok-put_buffer.ensures,
      c.in_ok-put.ensures,
      c.in_ok-put_indentation.ensures,
    )
    (simp append_assoc))
