use Rattle.std.proofs.Common.{sym, ◌∙◌}
use Rattle.rules_shape_tensor.proofs.ReachLaws.{array_scoped}
use Rattle.rules_shape.proofs.rows.truncr_index.Goals as goal

pub first_extent-requires-clause-scoped : goal.first_extent-requires-clause-scoped
first_extent-requires-clause-scoped c =
    array_scoped c.args.focus.now c.requires c.in-Some.array.now c.in-Some.x.now (sym c.get.ensures ∙ c.in-Some.ensures)
