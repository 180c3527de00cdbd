use Rattle.binders_rows.proofs.WorkedRows.{may_put_five}
use Rattle.binders_rows.proofs.tests.put_five.Goals as goal

pub map_term-requires : goal.map_term-requires
map_term-requires c = let h = may_put_five c.args.term.now c.requires in record { deep = h.0; within = h.1 }
