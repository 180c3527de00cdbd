use Rattle.std.proofs.Common.{sym, length, ◌∙◌}
use Rattle.fact_list.specs.Facts.{binders}
use Rattle.term_tree.specs.Syntax.{flatten, split}
use Rattle.rules_shape_tensor.proofs.ReachLaws.{chunks_of, term_scope}
use Rattle.rules_shape_tensor.proofs.tensors.split_flatten.Goals as goal

pub second_extent-requires-clause-scoped : goal.second_extent-requires-clause-scoped
second_extent-requires-clause-scoped c =
    let f = c.args.focus.now in
    let k = c.in-Some.k in
    let e = c.in-Some-as_flatten.e.now in
    let term = sym c.get.ensures ∙ c.in-Some.ensures ∙ (λ i. split k (c.in-Some-as_flatten.ensures i)) in
    (length f.facts.sizes, binders f.facts.path, (chunks_of f c.requires k e (term_scope f c.requires (split k (flatten e)) term)).scope)
