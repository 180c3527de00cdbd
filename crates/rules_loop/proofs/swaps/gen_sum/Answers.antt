use Rattle.std.proofs.Common.{rules, ap, refl, sym, subst, ◌∙◌, ◌≤◌, length}
use Rattle.path_focus.specs.Outcome.{IsOutcome, Meant}
use Rattle.term_tree.specs.Syntax.{gen, sum}
use Rattle.term_tree.specs.declared.term.Term.{Term}
use Rattle.rules_loop.specs.Table as table
use Rattle.rules_loop.specs.Table.{swapped}
use Rattle.rule_parts.proofs.PatternLaws.{no_arguments}
use Rattle.rules_loop.proofs.ReachLaws.{swap_reach_at}
use Rattle.rules_loop.proofs.swaps.gen_sum.Goals as goal

pub swapped-requires-clause-deep : goal.swapped-requires-clause-deep
swapped-requires-clause-deep c =
    let term = sym c.get.ensures ∙ c.in-Some.ensures ∙ (λ i. gen c.in-Some.n.now (c.in-Some-as_sum.ensures i)) in
    (swap_reach_at c.args.focus.now c.requires (gen c.in-Some.n.now
    (sum c.in-Some-as_sum.m.now c.in-Some-as_sum.body.now)) c.in-Some-as_sum.body.now c.in-Some.n.now c.in-Some-as_sum.m.now
    term refl refl).0

pub swapped-requires-clause-within : goal.swapped-requires-clause-within
swapped-requires-clause-within c =
    let term = sym c.get.ensures ∙ c.in-Some.ensures ∙ (λ i. gen c.in-Some.n.now (c.in-Some-as_sum.ensures i)) in
    (swap_reach_at c.args.focus.now c.requires (gen c.in-Some.n.now
    (sum c.in-Some-as_sum.m.now c.in-Some-as_sum.body.now)) c.in-Some-as_sum.body.now c.in-Some.n.now c.in-Some-as_sum.m.now
    term refl refl).1

pub returns : goal.returns
returns c =
    let term = sym c.get.ensures ∙ c.in-Some.ensures ∙ (λ i. gen c.in-Some.n.now (c.in-Some-as_sum.ensures i)) in
    let none : length c.args.args.now ≤ 0 = search rules in
    let rows = c.in_ok-rows.ensures {u = tt} (swapped c.in-Some-as_sum.body.now) (c.in_ok-body.ensures {u = tt}) in
    let draft = c.in_ok-draft.ensures {u = tt} (gen c.in-Some.n.now (swapped c.in-Some-as_sum.body.now)) rows in
    subst (λ (m : Meant). IsOutcome m c.drafted.result)
    (sym (ap (λ (t : Term). table.gen_sum (record c.args.focus.now { term = t }) c.args.args.now) term ∙ no_arguments c.args.args.now _ none))
    (c.drafted.ensures (sum c.in-Some-as_sum.m.now (gen c.in-Some.n.now (swapped c.in-Some-as_sum.body.now))) draft)
