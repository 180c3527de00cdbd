use Rattle.std.proofs.Common.{rules, ◌≡◌, ◌≤◌, [], ◌∷◌, ap, length, sym, subst, true, ◌∙◌}
use Rattle.std.specs.Prelude.{pos}
use Rattle.affine_index.specs.Form.{literal_form}
use Rattle.binders.specs.Answers.{IsWithinReach}
use Rattle.binders.specs.PlainMaps.{put_index_reach}
use Rattle.path_focus.specs.Making.{with_index}
use Rattle.path_focus.specs.Outcome.{IsDraft, IsOutcome, Makes, Meant, without_arguments}
use Rattle.term_tree.specs.Counts.{node_depth}
use Rattle.term_tree.specs.Syntax.{gen, guard}
use Rattle.term_tree.specs.declared.term.Term.{Term}
use Rattle.rule_parts.proofs.PatternLaws.{no_arguments}
use Rattle.rule_parts.specs.Conds.{lowered}
use Rattle.rule_parts.specs.Patterns.{provided}
use Rattle.rules_guard.specs.Table as table
use Rattle.rules_guard.proofs.OutwardLaws.{alone_free, alone_reach}
use Rattle.rules_guard.proofs.outward.gen_guard.Goals as goal

pub free_index-requires : goal.free_index-requires
free_index-requires c =
    let term = sym c.get.ensures ∙ c.in-Some.ensures ∙ (λ i. gen c.in-Some.n.now (c.in-Some-as_guard.ensures i)) in
    subst (λ (e : Term). node_depth e ≤ 2147483647) (sym (c.get-2.ensures ∙ c.in_ok-guarded.ensures {u = tt}))
    (alone_reach c.args.focus.now c.requires c.in-Some.n.now c.in-Some-as_guard.cond.now c.in-Some-as_guard.body.now term).0

pub lowered-requires-clause-within : goal.lowered-requires-clause-within
lowered-requires-clause-within c =
    let term = sym c.get.ensures ∙ c.in-Some.ensures ∙ (λ i. gen c.in-Some.n.now (c.in-Some-as_guard.ensures i)) in
    subst (λ (e : Term). IsWithinReach (put_index_reach (literal_form (pos 0) ∷ []) 0) e) (sym (c.get-3.ensures ∙ c.in_ok-guarded.ensures {u = tt}))
    (alone_reach c.args.focus.now c.requires c.in-Some.n.now c.in-Some-as_guard.cond.now c.in-Some-as_guard.body.now term).1

pub returns : goal.returns
returns c =
    let n = c.in-Some.n.now in
    let cond = c.in-Some-as_guard.cond.now in
    let body = c.in-Some-as_guard.body.now in
    let term = sym c.get.ensures ∙ c.in-Some.ensures ∙ (λ i. gen n (c.in-Some-as_guard.ensures i)) in
    let none : length c.args.args.now ≤ 0 = search rules in
    let answered : c.free_index.result ≡ true = search rules in
    let free = alone_free cond c.get-2.result.now c.free_index.result (c.get-2.ensures ∙ c.in_ok-guarded.ensures {u = tt}) c.free_index.ensures.exact
    answered in
    let test = subst (λ (e : Term). IsDraft (with_index (literal_form (pos 0)) e) c.in_ok-test.test) (c.get-3.ensures ∙ c.in_ok-guarded.ensures {u = tt})
    (c.in_ok-test.ensures {u = tt}) in
    let draft = c.in_ok-draft.ensures {u = tt} (lowered cond) test in
    subst (λ (m : Meant). IsOutcome m c.drafted.result)
    (sym (ap (λ (t : Term). table.gen_guard (record c.args.focus.now { term = t }) c.args.args.now) term
    ∙ (λ i. provided (free i) (without_arguments c.args.args.now (Makes (guard (lowered cond) (gen n body)) [])))
    ∙ no_arguments c.args.args.now _ none))
    (c.drafted.ensures (guard (lowered cond) (gen n body)) draft)
