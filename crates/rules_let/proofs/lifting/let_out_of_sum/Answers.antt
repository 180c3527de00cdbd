use Rattle.std.proofs.Common.{rules, ◌≡◌, ◌≤◌, [], ap, arith, length, not, refl, sym, subst, true, ◌∙◌}
use Rattle.binders.specs.Uses.{uses_index}
use Rattle.path_focus.specs.Making.{lowered}
use Rattle.path_focus.specs.Outcome.{IsDraft, IsOutcome, Makes, Meant, without_arguments}
use Rattle.term_tree.specs.Syntax.{sum, let_in}
use Rattle.term_tree.specs.declared.term.Term.{Term}
use Rattle.rule_parts.proofs.PatternLaws.{no_arguments}
use Rattle.rule_parts.specs.Patterns.{provided}
use Rattle.rules_let.specs.Table as table
use Rattle.rules_let.proofs.ReachLaws.{lowered_reach}
use Rattle.rules_let.proofs.lifting.let_out_of_sum.Goals as goal

pub free_index-requires : goal.free_index-requires
free_index-requires c =
    let n = c.in-Some.n.now in
    let a = c.in-Some-as_let.constant.now in
    let b = c.in-Some-as_let.body.now in
    let term = sym c.get.ensures ∙ c.in-Some.ensures ∙ (λ i. sum n (c.in-Some-as_let.ensures i)) in
    (lowered_reach c.args.focus.now c.requires (sum n (let_in a b)) a b n term (omega arith) refl).0

pub lowered-requires-clause-deep : goal.lowered-requires-clause-deep
lowered-requires-clause-deep c =
    let n = c.in-Some.n.now in
    let a = c.in-Some-as_let.constant.now in
    let b = c.in-Some-as_let.body.now in
    let term = sym c.get.ensures ∙ c.in-Some.ensures ∙ (λ i. sum n (c.in-Some-as_let.ensures i)) in
    (lowered_reach c.args.focus.now c.requires (sum n (let_in a b)) a b n term (omega arith) refl).0

pub lowered-requires-clause-within : goal.lowered-requires-clause-within
lowered-requires-clause-within c =
    let n = c.in-Some.n.now in
    let a = c.in-Some-as_let.constant.now in
    let b = c.in-Some-as_let.body.now in
    let term = sym c.get.ensures ∙ c.in-Some.ensures ∙ (λ i. sum n (c.in-Some-as_let.ensures i)) in
    (lowered_reach c.args.focus.now c.requires (sum n (let_in a b)) a b n term (omega arith) refl).1

pub returns : goal.returns
returns c =
    let n = c.in-Some.n.now in
    let a = c.in-Some-as_let.constant.now in
    let b = c.in-Some-as_let.body.now in
    let term = sym c.get.ensures ∙ c.in-Some.ensures ∙ (λ i. sum n (c.in-Some-as_let.ensures i)) in
    let none : length c.args.args.now ≤ 0 = search rules in
    let answered : c.free_index.result ≡ true = search rules in
    let free : not (uses_index a 0) ≡ true = sym c.free_index.ensures.exact ∙ answered in
    let draft = subst (λ (t : Term). IsDraft (let_in (lowered a) t) c.in_ok-draft.draft) (c.get-2.ensures ∙ c.in_ok-total.ensures {u = tt})
    (c.in_ok-draft.ensures {u = tt} (lowered a) (c.in_ok-lifted.ensures {u = tt})) in
    subst (λ (m : Meant). IsOutcome m c.drafted.result)
    (sym (ap (λ (t : Term). table.let_out_of_sum (record c.args.focus.now { term = t }) c.args.args.now) term
    ∙ (λ i. provided (free i) (without_arguments c.args.args.now (Makes (let_in (lowered a) (sum n b)) [])))
    ∙ no_arguments c.args.args.now _ none))
    (c.drafted.ensures (let_in (lowered a) (sum n b)) draft)
