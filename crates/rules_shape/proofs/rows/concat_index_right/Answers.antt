use Rattle.std.proofs.Common.{sym, ◌∙◌}
use Rattle.term_tree.specs.Syntax.{index}
use Rattle.rules_shape_tensor.proofs.ReachLaws.{first_scoped}
use Rattle.rules_shape.proofs.rows.concat_index_right.Goals as goal

pub first_extent-requires-clause-scoped : goal.first_extent-requires-clause-scoped
first_extent-requires-clause-scoped c =
    first_scoped c.args.focus.now c.requires c.in-Some-as_concat.a.now c.in-Some-as_concat.b.now c.in-Some.x.now
    (sym c.get.ensures ∙ c.in-Some.ensures ∙ (λ i. index (c.in-Some-as_concat.ensures i) c.in-Some.x.now))
