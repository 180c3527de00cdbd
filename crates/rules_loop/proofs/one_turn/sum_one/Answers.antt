use Rattle.std.proofs.Common.{rules, ◌≡◌, ap, sym, subst, ◌∙◌, ◌≤◌, [], length, true}
use Rattle.std.specs.Prelude.{pos}
use Rattle.affine_index.specs.Form.{literal_form}
use Rattle.path_focus.specs.Making.{lowered}
use Rattle.path_focus.specs.Outcome.{IsOutcome, Makes, Meant, without_arguments}
use Rattle.term_tree.specs.Shape.{same_form}
use Rattle.term_tree.specs.declared.term.Term.{Term}
use Rattle.rules_loop.specs.OneTurn as table
use Rattle.rule_parts.specs.Patterns.{provided}
use Rattle.rule_parts.proofs.PatternLaws.{no_arguments}
use Rattle.rules_loop.proofs.TurnReach.{one_reach}
use Rattle.rules_loop.proofs.one_turn.sum_one.Goals as goal

pub lowered-requires-clause-deep : goal.lowered-requires-clause-deep
lowered-requires-clause-deep c =
    (one_reach c.args.focus.now c.requires c.in-Some.n.now c.in-Some.body.now (sym c.get.ensures ∙ c.in-Some.ensures)).0

pub lowered-requires-clause-within : goal.lowered-requires-clause-within
lowered-requires-clause-within c =
    (one_reach c.args.focus.now c.requires c.in-Some.n.now c.in-Some.body.now (sym c.get.ensures ∙ c.in-Some.ensures)).1

pub returns : goal.returns
returns c =
    let n = c.in-Some.n.now in
    let b = c.in-Some.body.now in
    let term = sym c.get.ensures ∙ c.in-Some.ensures in
    let one : same_form n (literal_form (pos 1)) ≡ true = search rules in
    let none : length c.args.args.now ≤ 0 = search rules in
    subst (λ (m : Meant). IsOutcome m c.drafted.result)
    (sym (ap (λ (t : Term). table.sum_one (record c.args.focus.now { term = t }) c.args.args.now) term
    ∙ (λ i. provided (one i) (without_arguments c.args.args.now (Makes (lowered b) []))) ∙ no_arguments c.args.args.now _ none))
    (c.drafted.ensures (lowered b) (c.in_ok-draft.ensures {u = tt}))
