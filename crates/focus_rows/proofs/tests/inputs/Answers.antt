use Rattle.focus_rows.proofs.RowLaws.{one_input, one_is}
use Rattle.focus_rows.proofs.tests.inputs.Goals as goal

pub returns : goal.returns
returns c = one_input c.push.new.self _ (one_is c.new-inputs.result c.push.new.self _ (c.in_ok-push.ensures {u = tt}).ok c.new-inputs.ensures)
    (c.in_ok-extents.ensures {u = tt})
