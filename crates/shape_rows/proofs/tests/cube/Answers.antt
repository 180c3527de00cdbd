use Rattle.shape_rows.proofs.RowLaws.{literal_push}
use Rattle.shape_rows.proofs.tests.cube.Goals as goal

pub loop-i-preserved : goal.loop-i-preserved
loop-i-preserved c = literal_push c.loop-i.extents _ c.in_ok-form.form _ (c.in_ok-push.ensures {u = tt}).ok (c.in_ok-form.ensures {u = tt}) c.loop-i.invariant
