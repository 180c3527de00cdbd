use Rattle.std.proofs.Common.{rules, ◌≤◌, [], ap, length, sym, subst, ◌∙◌}
use Rattle.path_focus.specs.Outcome.{IsOutcome, Makes, Meant, without_arguments}
use Rattle.term_tree.specs.Syntax.{guard, index}
use Rattle.term_tree.specs.declared.term.Term.{Term}
use Rattle.rule_parts.proofs.PatternLaws.{no_arguments}
use Rattle.rule_parts.specs.Conds.{within_rows}
use Rattle.rule_parts.specs.Patterns.{on_form}
use Rattle.rules_guard.specs.Table as table
use Rattle.rules_guard.proofs.AccessLaws.{array_scoped}
use Rattle.rules_guard.proofs.rows.access_guard.Goals as goal

pub first_extent-requires-clause-scoped : goal.first_extent-requires-clause-scoped
first_extent-requires-clause-scoped c =
    array_scoped c.args.focus.now c.requires c.in-Some.array.now c.in-Some.x.now (sym c.get.ensures ∙ c.in-Some.ensures)

pub returns : goal.returns
returns c =
    let array = c.in-Some.array.now in
    let x = c.in-Some.x.now in
    let n = c.in-Some-2.n in
    let term = sym c.get.ensures ∙ c.in-Some.ensures in
    let none : length c.args.args.now ≤ 0 = search rules in
    let first = sym (c.in_ok-n.ensures {u = tt}) ∙ c.in-Some-2.is in
    subst (λ (m : Meant). IsOutcome m c.drafted.result)
    (sym (ap (λ (t : Term). table.access_guard (record c.args.focus.now { term = t }) c.args.args.now) term
    ∙ (λ i. on_form (first i) (λ n. without_arguments c.args.args.now (Makes (guard (within_rows n x) (index array x)) [])))
    ∙ no_arguments c.args.args.now _ none))
    (c.drafted.ensures (guard (within_rows n x) (index array x)) (c.in_ok-draft.ensures {u = tt}))
