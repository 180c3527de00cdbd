use Rattle.binders_rows.proofs.WorkedRows.{may_move}
use Rattle.binders_rows.proofs.tests.moved.Goals as goal

pub map_term-requires : goal.map_term-requires
map_term-requires c = let h = may_move c.args.term.now c.requires in record { deep = h.0; within = h.1 }
