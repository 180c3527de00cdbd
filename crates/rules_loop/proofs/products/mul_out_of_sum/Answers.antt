use Rattle.std.proofs.Common.{rules, ◌≡◌, ap, sym, subst, ◌∙◌, ◌≤◌, [], length, not, true, false}
use Rattle.binders.specs.Uses.{uses_index}
use Rattle.path_focus.specs.Making.{lowered}
use Rattle.path_focus.specs.Outcome.{IsOutcome, Makes, Meant, without_arguments}
use Rattle.term_tree.specs.Syntax.{mul, sum}
use Rattle.term_tree.specs.declared.term.Term.{Term}
use Rattle.rule_parts.specs.Patterns.{provided}
use Rattle.rules_loop.specs.Table as table
use Rattle.rule_parts.proofs.DraftLaws.{unlike}
use Rattle.rule_parts.proofs.PatternLaws.{no_arguments}
use Rattle.rules_loop.proofs.ReachLaws.{factor_reach}
use Rattle.rules_loop.proofs.products.mul_out_of_sum.Goals as goal

pub free_index-requires : goal.free_index-requires
free_index-requires c =
    let term = sym c.get.ensures ∙ c.in-Some.ensures ∙ (λ i. sum c.in-Some.n.now (c.in-Some-as_mul.ensures i)) in
    (factor_reach c.args.focus.now c.requires c.in-Some.n.now c.in-Some-as_mul.a.now c.in-Some-as_mul.b.now term).0

pub returns-then-not-free_index : goal.returns-then-not-free_index
returns-then-not-free_index c =
    let term = sym c.get.ensures ∙ c.in-Some.ensures ∙ (λ i. sum c.in-Some.n.now (c.in-Some-as_mul.ensures i)) in
    let a = c.in-Some-as_mul.a.now in
    let used : not (uses_index a 0) ≡ false = search rules in
    unlike (table.mul_out_of_sum c.args.focus.now c.args.args.now)
    (ap (λ (t : Term). table.mul_out_of_sum (record c.args.focus.now { term = t }) c.args.args.now) term
    ∙ (λ i. provided (used i) (without_arguments c.args.args.now (Makes (mul (lowered a) (sum c.in-Some.n.now c.in-Some-as_mul.b.now)) []))))

pub lowered-requires-clause-deep : goal.lowered-requires-clause-deep
lowered-requires-clause-deep c =
    let term = sym c.get.ensures ∙ c.in-Some.ensures ∙ (λ i. sum c.in-Some.n.now (c.in-Some-as_mul.ensures i)) in
    (factor_reach c.args.focus.now c.requires c.in-Some.n.now c.in-Some-as_mul.a.now c.in-Some-as_mul.b.now term).0

pub lowered-requires-clause-within : goal.lowered-requires-clause-within
lowered-requires-clause-within c =
    let term = sym c.get.ensures ∙ c.in-Some.ensures ∙ (λ i. sum c.in-Some.n.now (c.in-Some-as_mul.ensures i)) in
    (factor_reach c.args.focus.now c.requires c.in-Some.n.now c.in-Some-as_mul.a.now c.in-Some-as_mul.b.now term).1

pub returns : goal.returns
returns c =
    let term = sym c.get.ensures ∙ c.in-Some.ensures ∙ (λ i. sum c.in-Some.n.now (c.in-Some-as_mul.ensures i)) in
    let a = c.in-Some-as_mul.a.now in
    let free : not (uses_index a 0) ≡ true = search rules in
    let none : length c.args.args.now ≤ 0 = search rules in
    let made = Makes (mul (lowered a) (sum c.in-Some.n.now c.in-Some-as_mul.b.now)) [] in
    let draft = c.in_ok-draft.ensures {u = tt} (lowered a) (c.in_ok-factor.ensures {u = tt}) in
    subst (λ (m : Meant). IsOutcome m c.drafted.result)
    (sym (ap (λ (t : Term). table.mul_out_of_sum (record c.args.focus.now { term = t }) c.args.args.now) term
    ∙ (λ i. provided (free i) (without_arguments c.args.args.now made)) ∙ no_arguments c.args.args.now _ none))
    (c.drafted.ensures (mul (lowered a) (sum c.in-Some.n.now c.in-Some-as_mul.b.now)) draft)
