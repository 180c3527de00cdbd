use Rattle.std.proofs.Common.{rules, ◌≤◌, ap, arith, length, refl, sym, subst, ◌∙◌}
use Rattle.path_focus.specs.Outcome.{IsDraft, IsOutcome, Meant}
use Rattle.term_tree.specs.Syntax.{gen, let_in}
use Rattle.term_tree.specs.declared.term.Term.{Term}
use Rattle.rule_parts.proofs.PatternLaws.{no_arguments}
use Rattle.rules_let.specs.Table as table
use Rattle.rules_let.specs.Table.{by_rows}
use Rattle.rules_let.proofs.ReachLaws.{rows_reach}
use Rattle.rules_let.proofs.lifting.let_out_of_gen.Goals as goal

pub by_rows-requires-clause-deep : goal.by_rows-requires-clause-deep
by_rows-requires-clause-deep c =
    let n = c.in-Some.n.now in
    let a = c.in-Some-as_let.definition.now in
    let b = c.in-Some-as_let.body.now in
    let term = sym c.get.ensures ∙ c.in-Some.ensures ∙ (λ i. gen n (c.in-Some-as_let.ensures i)) in
    (rows_reach c.args.focus.now c.requires (gen n (let_in a b)) a b n term (omega arith) refl).0

pub by_rows-requires-clause-within : goal.by_rows-requires-clause-within
by_rows-requires-clause-within c =
    let n = c.in-Some.n.now in
    let a = c.in-Some-as_let.definition.now in
    let b = c.in-Some-as_let.body.now in
    let term = sym c.get.ensures ∙ c.in-Some.ensures ∙ (λ i. gen n (c.in-Some-as_let.ensures i)) in
    (rows_reach c.args.focus.now c.requires (gen n (let_in a b)) a b n term (omega arith) refl).1

pub returns : goal.returns
returns c =
    let n = c.in-Some.n.now in
    let a = c.in-Some-as_let.definition.now in
    let b = c.in-Some-as_let.body.now in
    let term = sym c.get.ensures ∙ c.in-Some.ensures ∙ (λ i. gen n (c.in-Some-as_let.ensures i)) in
    let none : length c.args.args.now ≤ 0 = search rules in
    let draft = subst (λ (t : Term). IsDraft (let_in t (gen n (by_rows b))) c.in_ok-draft.draft) (c.get-2.ensures ∙ c.in_ok-rows.ensures {u = tt})
    (c.in_ok-draft.ensures {u = tt} (gen n (by_rows b)) (c.in_ok-each.ensures {u = tt} (by_rows b) (c.in_ok-inside.ensures {u = tt}))) in
    subst (λ (m : Meant). IsOutcome m c.drafted.result)
    (sym (ap (λ (t : Term). table.let_out_of_gen (record c.args.focus.now { term = t }) c.args.args.now) term ∙ no_arguments c.args.args.now _ none))
    (c.drafted.ensures (let_in (gen n a) (gen n (by_rows b))) draft)
