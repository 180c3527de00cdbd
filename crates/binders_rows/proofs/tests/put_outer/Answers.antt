use Rattle.binders_rows.proofs.WorkedRows.{may_put_outer}
use Rattle.binders_rows.proofs.tests.put_outer.Goals as goal

pub map_term-requires : goal.map_term-requires
map_term-requires c =
    let h = may_put_outer c.args.outer c.in_ok-by.by c.args.term.now c.requires.one_of_two c.in_ok-by.ensures c.requires.gathered in
    record { deep = h.0; within = h.1 }
