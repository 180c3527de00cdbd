use Rattle.std.proofs.Common.{rules, ◌≤◌, ap, length, sym, subst, ◌∙◌}
use Rattle.path_focus.specs.Outcome.{IsOutcome, Meant}
use Rattle.term_tree.specs.Syntax.{let_in}
use Rattle.term_tree.specs.declared.term.Term.{Term}
use Rattle.rule_parts.proofs.PatternLaws.{no_arguments}
use Rattle.rules_let.specs.Table as table
use Rattle.rules_let.specs.Table.{under_outer_let}
use Rattle.rules_let.proofs.ReachLaws.{outer_reach}
use Rattle.rules_let.proofs.nesting.let_let.Goals as goal

pub under_outer_let-requires-clause-deep : goal.under_outer_let-requires-clause-deep
under_outer_let-requires-clause-deep c =
    (outer_reach c.args.focus.now c.requires c.in-Some.inside.now c.in-Some.body.now (sym c.get.ensures ∙ c.in-Some.ensures)).0

pub under_outer_let-requires-clause-within : goal.under_outer_let-requires-clause-within
under_outer_let-requires-clause-within c =
    (outer_reach c.args.focus.now c.requires c.in-Some.inside.now c.in-Some.body.now (sym c.get.ensures ∙ c.in-Some.ensures)).1

pub returns : goal.returns
returns c =
    let a = c.in-Some-as_let.outer.now in
    let b = c.in-Some-as_let.inner.now in
    let e = c.in-Some.body.now in
    let term = sym c.get.ensures ∙ c.in-Some.ensures ∙ (λ i. let_in (c.in-Some-as_let.ensures i) e) in
    let none : length c.args.args.now ≤ 0 = search rules in
    let draft = c.in_ok-draft.ensures {u = tt} (let_in b (under_outer_let e))
    (c.in_ok-within.ensures {u = tt} (under_outer_let e) (c.in_ok-moved.ensures {u = tt})) in
    subst (λ (m : Meant). IsOutcome m c.drafted.result)
    (sym (ap (λ (t : Term). table.let_let (record c.args.focus.now { term = t }) c.args.args.now) term ∙ no_arguments c.args.args.now _ none))
    (c.drafted.ensures (let_in a (let_in b (under_outer_let e))) draft)
