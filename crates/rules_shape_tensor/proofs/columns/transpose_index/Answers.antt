use Rattle.std.proofs.Common.{sym, ◌∙◌}
use Rattle.term_tree.specs.Syntax.{index, transpose}
use Rattle.rules_shape_tensor.proofs.ReachLaws.{array_scoped, column_reach, index_fits}
use Rattle.rules_shape_tensor.proofs.columns.transpose_index.Goals as goal

pub first_extent-requires-clause-scoped : goal.first_extent-requires-clause-scoped
first_extent-requires-clause-scoped c =
    array_scoped c.args.focus.now c.requires (transpose c.in-Some-as_transpose.e.now) c.in-Some.x.now
    (sym c.get.ensures ∙ c.in-Some.ensures ∙ (λ i. index (c.in-Some-as_transpose.ensures i) c.in-Some.x.now))

pub column-requires-clause-deep : goal.column-requires-clause-deep
column-requires-clause-deep c =
    (column_reach c.args.focus.now c.requires c.in-Some-as_transpose.e.now c.in-Some.x.now
    (sym c.get.ensures ∙ c.in-Some.ensures ∙ (λ i. index (c.in-Some-as_transpose.ensures i) c.in-Some.x.now))).0

pub column-requires-clause-within : goal.column-requires-clause-within
column-requires-clause-within c =
    (column_reach c.args.focus.now c.requires c.in-Some-as_transpose.e.now c.in-Some.x.now
    (sym c.get.ensures ∙ c.in-Some.ensures ∙ (λ i. index (c.in-Some-as_transpose.ensures i) c.in-Some.x.now))).1

pub column-requires-clause-fits : goal.column-requires-clause-fits
column-requires-clause-fits c =
    index_fits c.args.focus.now c.requires c.in-Some.array.now c.in-Some.x.now (sym c.get.ensures ∙ c.in-Some.ensures)
