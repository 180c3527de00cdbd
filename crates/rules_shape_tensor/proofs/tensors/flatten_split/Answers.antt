use Rattle.std.proofs.Common.{rules, ◌≡◌, ◌≤◌, ap, length, sym, subst, ◌∙◌}
use Rattle.std.specs.Prelude.{Some}
use Rattle.fact_list.specs.Facts.{binders}
use Rattle.path_focus.specs.Making.{tile_rest}
use Rattle.path_focus.specs.Outcome.{IsOutcome, Makes, Meant, without_arguments}
use Rattle.rule_parts.specs.Patterns.{first_extent, on_form}
use Rattle.rule_parts.proofs.PatternLaws.{no_arguments}
use Rattle.shape_rules.specs.Scopes.{given}
use Rattle.std.specs.Prelude.{[]}
use Rattle.term_tree.specs.Shape.{shape_of}
use Rattle.term_tree.specs.Syntax.{flatten, pad_r, split}
use Rattle.term_tree.specs.declared.term.Term.{Term}
use Rattle.rules_shape_tensor.specs.Tensors as table
use Rattle.rules_shape_tensor.proofs.ReachLaws.{chunks_of, term_scope}
use Rattle.rules_shape_tensor.proofs.tensors.flatten_split.Goals as goal

pub first_extent-requires-clause-scoped : goal.first_extent-requires-clause-scoped
first_extent-requires-clause-scoped c =
    let f = c.args.focus.now in
    let k = c.in-Some-as_split.k in
    let e = c.in-Some-as_split.e.now in
    let term = sym c.get.ensures ∙ c.in-Some.ensures ∙ (λ i. flatten (c.in-Some-as_split.ensures i)) in
    (length f.facts.sizes, binders f.facts.path, (chunks_of f c.requires k e (term_scope f c.requires (flatten (split k e)) term)).scope)

pub filled_up-requires-clause-positive : goal.filled_up-requires-clause-positive
filled_up-requires-clause-positive c =
    let f = c.args.focus.now in
    let k = c.in-Some-as_split.k in
    let e = c.in-Some-as_split.e.now in
    let term = sym c.get.ensures ∙ c.in-Some.ensures ∙ (λ i. flatten (c.in-Some-as_split.ensures i)) in
    (chunks_of f c.requires k e (term_scope f c.requires (flatten (split k e)) term)).positive

pub filled_up-requires-clause-limit : goal.filled_up-requires-clause-limit
filled_up-requires-clause-limit c =
    let f = c.args.focus.now in
    let k = c.in-Some-as_split.k in
    let e = c.in-Some-as_split.e.now in
    let term = sym c.get.ensures ∙ c.in-Some.ensures ∙ (λ i. flatten (c.in-Some-as_split.ensures i)) in
    (chunks_of f c.requires k e (term_scope f c.requires (flatten (split k e)) term)).limit

pub returns : goal.returns
returns c =
    let f = c.args.focus.now in
    let k = c.in-Some-as_split.k in
    let e = c.in-Some-as_split.e.now in
    let n = c.in-Some-2.n in
    let term = sym c.get.ensures ∙ c.in-Some.ensures ∙ (λ i. flatten (c.in-Some-as_split.ensures i)) in
    let none : length c.args.args.now ≤ 0 = search rules in
    let first : Some n ≡ first_extent (shape_of e (given f.shapes)) = search rules in
    subst (λ (m : Meant). IsOutcome m c.drafted.result)
    (sym (ap (λ (t : Term). table.flatten_split (record f { term = t }) c.args.args.now) term
    ∙ (λ i. on_form (sym first i) (λ n. without_arguments c.args.args.now (Makes (pad_r (tile_rest k n) e) [])))
    ∙ no_arguments c.args.args.now _ none))
    (c.drafted.ensures (pad_r (tile_rest k n) e) (c.in_ok-draft.ensures {u = tt}))
