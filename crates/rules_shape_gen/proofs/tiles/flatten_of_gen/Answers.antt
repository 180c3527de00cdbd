use Rattle.std.proofs.Common.{rules, ◌≡◌, ap, sym, subst, ◌∙◌, ◌≤◌, [], length, true}
use Rattle.std.specs.Prelude.{pos}
use Rattle.affine_index.specs.Form.{literal_form}
use Rattle.path_focus.specs.Making.{lowered}
use Rattle.path_focus.specs.Outcome.{IsOutcome, Makes, Meant, without_arguments}
use Rattle.rule_parts.specs.Patterns.{provided}
use Rattle.rule_parts.proofs.PatternLaws.{no_arguments}
use Rattle.rules_shape_gen.specs.Table as table
use Rattle.rules_shape_gen.proofs.ReachLaws.{flatten_reach}
use Rattle.term_tree.specs.Shape.{same_form}
use Rattle.term_tree.specs.Syntax.{flatten}
use Rattle.term_tree.specs.declared.term.Term.{Term}
use Rattle.rules_shape_gen.proofs.tiles.flatten_of_gen.Goals as goal

pub lowered-requires-clause-deep : goal.lowered-requires-clause-deep
lowered-requires-clause-deep c =
    (flatten_reach c.args.focus.now c.requires c.in-Some-as_gen.n.now c.in-Some-as_gen.body.now
    (sym c.get.ensures ∙ c.in-Some.ensures ∙ (λ i. flatten (c.in-Some-as_gen.ensures i)))).0

pub lowered-requires-clause-within : goal.lowered-requires-clause-within
lowered-requires-clause-within c =
    (flatten_reach c.args.focus.now c.requires c.in-Some-as_gen.n.now c.in-Some-as_gen.body.now
    (sym c.get.ensures ∙ c.in-Some.ensures ∙ (λ i. flatten (c.in-Some-as_gen.ensures i)))).1

pub returns : goal.returns
returns c =
    let n = c.in-Some-as_gen.n.now in
    let b = c.in-Some-as_gen.body.now in
    let term = sym c.get.ensures ∙ c.in-Some.ensures ∙ (λ i. flatten (c.in-Some-as_gen.ensures i)) in
    let one : same_form n (literal_form (pos 1)) ≡ true = search rules in
    let none : length c.args.args.now ≤ 0 = search rules in
    subst (λ (m : Meant). IsOutcome m c.drafted.result)
    (sym (ap (λ (t : Term). table.flatten_of_gen (record c.args.focus.now { term = t }) c.args.args.now) term
    ∙ (λ i. provided (one i) (without_arguments c.args.args.now (Makes (lowered b) []))) ∙ no_arguments c.args.args.now _ none))
    (c.drafted.ensures (lowered b) (c.in_ok-draft.ensures {u = tt}))
