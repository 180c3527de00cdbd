use Rattle.std.proofs.Common.{append_assoc}
use Rattle.std.proofs.lemmas.Result.{IfOk-equal}
use Rattle.c_print.proofs.writer.Writer.put_store.Goals as goal

pub returns : goal.returns
returns c = IfOk-equal _ _ _ _ c.put-2.ensures
    (rw (c.in_ok-put_word.ensures, c.in_ok-put.ensures, c.in_ok-put_element.ensures, c.in_ok-put_indentation.ensures) (simp append_assoc))
