use Rattle.atl_meaning.proofs.extents.of_row.Goals as goal

pub returns : goal.returns
returns c = (c.in_ok-d.d, c.in_ok-d.was {u = tt}, cc (c.in_ok-row.ensures {u = tt}))
