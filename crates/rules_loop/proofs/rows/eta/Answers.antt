use Rattle.std.proofs.Common.{rules, ◌≡◌, ap, sym, subst, ◌∙◌, ◌≤◌, ◌&&◌, [], length, not, true}
use Rattle.affine_index.specs.Form.{var_form}
use Rattle.binders.specs.Uses.{uses_index}
use Rattle.path_focus.specs.Making.{lowered}
use Rattle.path_focus.specs.Outcome.{IsOutcome, Makes, Meant, without_arguments}
use Rattle.shape_rules.specs.Scopes.{given}
use Rattle.term_tree.specs.Shape.{same_form, shape_of}
use Rattle.term_tree.specs.Syntax.{gen}
use Rattle.term_tree.specs.declared.term.Term.{Term}
use Rattle.rule_parts.specs.Patterns.{provided}
use Rattle.rules_loop.specs.Patterns.{is_first}
use Rattle.rules_loop.specs.Table as table
use Rattle.rule_parts.proofs.PatternLaws.{no_arguments}
use Rattle.rules_loop.proofs.ReachLaws.{array_scoped, lowered_reach}
use Rattle.rules_loop.proofs.rows.eta.Goals as goal

pub is_each_row-requires-clause-deep : goal.is_each_row-requires-clause-deep
is_each_row-requires-clause-deep c =
    let term = sym c.get.ensures ∙ c.in-Some.ensures ∙ (λ i. gen c.in-Some.n.now (c.in-Some-as_index.ensures i)) in
    (lowered_reach c.args.focus.now c.requires c.in-Some.n.now c.in-Some-as_index.array.now c.in-Some-as_index.x.now term).0

pub is_each_row-requires-clause-scoped : goal.is_each_row-requires-clause-scoped
is_each_row-requires-clause-scoped c =
    let term = sym c.get.ensures ∙ c.in-Some.ensures ∙ (λ i. gen c.in-Some.n.now (c.in-Some-as_index.ensures i)) in
    array_scoped c.args.focus.now c.requires c.in-Some.n.now c.in-Some-as_index.array.now c.in-Some-as_index.x.now term

pub lowered-requires-clause-deep : goal.lowered-requires-clause-deep
lowered-requires-clause-deep c =
    let term = sym c.get.ensures ∙ c.in-Some.ensures ∙ (λ i. gen c.in-Some.n.now (c.in-Some-as_index.ensures i)) in
    (lowered_reach c.args.focus.now c.requires c.in-Some.n.now c.in-Some-as_index.array.now c.in-Some-as_index.x.now term).0

pub lowered-requires-clause-within : goal.lowered-requires-clause-within
lowered-requires-clause-within c =
    let term = sym c.get.ensures ∙ c.in-Some.ensures ∙ (λ i. gen c.in-Some.n.now (c.in-Some-as_index.ensures i)) in
    (lowered_reach c.args.focus.now c.requires c.in-Some.n.now c.in-Some-as_index.array.now c.in-Some-as_index.x.now term).1

pub returns : goal.returns
returns c =
    let n = c.in-Some.n.now in
    let a = c.in-Some-as_index.array.now in
    let x = c.in-Some-as_index.x.now in
    let term = sym c.get.ensures ∙ c.in-Some.ensures ∙ (λ i. gen n (c.in-Some-as_index.ensures i)) in
    let fits : (same_form x (var_form 0) && (not (uses_index a 0) && is_first n (shape_of a (given c.args.focus.now.shapes)))) ≡ true = search rules in
    let none : length c.args.args.now ≤ 0 = search rules in
    subst (λ (m : Meant). IsOutcome m c.drafted.result)
    (sym (ap (λ (t : Term). table.eta (record c.args.focus.now { term = t }) c.args.args.now) term
    ∙ (λ i. provided (fits i) (without_arguments c.args.args.now (Makes (lowered a) []))) ∙ no_arguments c.args.args.now _ none))
    (c.drafted.ensures (lowered a) (c.in_ok-draft.ensures {u = tt}))
