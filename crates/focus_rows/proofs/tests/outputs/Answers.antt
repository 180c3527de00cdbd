use Rattle.focus_rows.proofs.RowLaws.{one_is, one_term}
use Rattle.focus_rows.proofs.tests.outputs.Goals as goal

pub returns : goal.returns
returns c =
    one_term c.push.new.self _ c.args.term (one_is c.new-outputs.result c.push.new.self _ (c.in_ok-push.ensures {u = tt}).ok c.new-outputs.ensures)
    c.into_inner.ensures c.requires.scoped c.requires.small
