use Rattle.std.proofs.Common.{rules, ◌≡◌, ap, sym, subst, ◌∙◌, [], IfOk, true, false}
use Rattle.path_focus.specs.Outcome.{IsOutcome, Makes, Meant, without_arguments}
use Rattle.term_tree.specs.Shape.{same_form}
use Rattle.term_tree.specs.Syntax.{add, sum}
use Rattle.term_tree.specs.declared.term.Term.{Term}
use Rattle.rule_parts.specs.Patterns.{provided}
use Rattle.rules_loop.specs.Table as table
use Rattle.rule_parts.proofs.DraftLaws.{unlike}
use Rattle.rules_loop.proofs.sums.add_sum.Goals as goal

pub returns-then-not-is_same : goal.returns-then-not-is_same
returns-then-not-is_same c =
    let term = sym c.get.ensures ∙ c.in-Some.ensures ∙ (λ i. add (c.in-Some-as_sum.ensures i) (c.in-Some-as_sum-2.ensures i)) in
    let n = c.in-Some-as_sum.n.now in
    let other : same_form n c.in-Some-as_sum-2.m.now ≡ false = search rules in
    unlike (table.add_sum c.args.focus.now c.args.args.now)
    (ap (λ (t : Term). table.add_sum (record c.args.focus.now { term = t }) c.args.args.now) term
    ∙ (λ i. provided (other i) (without_arguments c.args.args.now (Makes (sum n (add c.in-Some-as_sum.a.now c.in-Some-as_sum-2.b.now)) []))))

pub returns : goal.returns
returns c =
    let term = sym c.get.ensures ∙ c.in-Some.ensures ∙ (λ i. add (c.in-Some-as_sum.ensures i) (c.in-Some-as_sum-2.ensures i)) in
    let n = c.in-Some-as_sum.n.now in
    let same : same_form n c.in-Some-as_sum-2.m.now ≡ true = search rules in
    subst (λ (m : Meant). IfOk c.joined.result (IsOutcome m))
    (sym (ap (λ (t : Term). table.add_sum (record c.args.focus.now { term = t }) c.args.args.now) term
    ∙ (λ i. provided (same i) (without_arguments c.args.args.now (Makes (sum n (add c.in-Some-as_sum.a.now c.in-Some-as_sum-2.b.now)) [])))))
    c.joined.ensures
