use Rattle.std.proofs.Common.{rules, ◌≤◌, ap, length, sym, subst, ◌∙◌}
use Rattle.path_focus.specs.Outcome.{IsOutcome, Meant}
use Rattle.term_tree.specs.declared.term.Term.{Term}
use Rattle.rule_parts.proofs.PatternLaws.{no_arguments}
use Rattle.rules_let.specs.Table as table
use Rattle.rules_let.specs.Table.{inlined}
use Rattle.rules_let.proofs.ReachLaws.{inlined_reach}
use Rattle.rules_let.proofs.inlining.let_inline.Goals as goal

pub inlined-requires-clause-deep : goal.inlined-requires-clause-deep
inlined-requires-clause-deep c =
    (inlined_reach c.args.focus.now c.requires c.in-Some.definition.now c.in-Some.body.now (sym c.get.ensures ∙ c.in-Some.ensures)).0

pub inlined-requires-clause-within : goal.inlined-requires-clause-within
inlined-requires-clause-within c =
    (inlined_reach c.args.focus.now c.requires c.in-Some.definition.now c.in-Some.body.now (sym c.get.ensures ∙ c.in-Some.ensures)).1

pub returns : goal.returns
returns c =
    let a = c.in-Some.definition.now in
    let b = c.in-Some.body.now in
    let term = sym c.get.ensures ∙ c.in-Some.ensures in
    let none : length c.args.args.now ≤ 0 = search rules in
    subst (λ (m : Meant). IsOutcome m c.drafted.result)
    (sym (ap (λ (t : Term). table.let_inline (record c.args.focus.now { term = t }) c.args.args.now) term ∙ no_arguments c.args.args.now _ none))
    (c.drafted.ensures (inlined a b) (c.in_ok-draft.ensures {u = tt}))
