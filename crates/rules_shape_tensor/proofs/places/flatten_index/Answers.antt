use Rattle.std.proofs.Common.{rules, ◌≡◌, sym, ◌∙◌}
use Rattle.std.specs.Prelude.{Some}
use Rattle.shape_rules.specs.Scopes.{given}
use Rattle.term_tree.specs.Shape.{shape_of}
use Rattle.term_tree.specs.Syntax.{flatten, index}
use Rattle.rules_shape_tensor.specs.Patterns.{second_extent}
use Rattle.rules_shape_tensor.proofs.ExtentLaws.{second_free}
use Rattle.rules_shape_tensor.proofs.ReachLaws.{array_scope, array_scoped}
use Rattle.rules_shape_tensor.proofs.places.flatten_index.Goals as goal

pub second_extent-requires-clause-scoped : goal.second_extent-requires-clause-scoped
second_extent-requires-clause-scoped c =
    array_scoped c.args.focus.now c.requires (flatten c.in-Some-as_flatten.e.now) c.in-Some.x.now
    (sym c.get.ensures ∙ c.in-Some.ensures ∙ (λ i. index (c.in-Some-as_flatten.ensures i) c.in-Some.x.now))

pub leads-requires : goal.leads-requires
leads-requires c =
    let f = c.args.focus.now in
    let e = c.in-Some-as_flatten.e.now in
    let term = sym c.get.ensures ∙ c.in-Some.ensures ∙ (λ i. index (c.in-Some-as_flatten.ensures i) c.in-Some.x.now) in
    let second : Some c.in-Some-2.m ≡ second_extent (shape_of e (given f.shapes)) = search rules in
    second_free f c.requires e (array_scope f c.requires (flatten e) c.in-Some.x.now term) c.in-Some-2.m second
