use Rattle.std.proofs.Common.{rules, ◌≡◌, ◌≤◌, [], ◌∷◌, sym, subst, true, ◌∙◌}
use Rattle.binders.specs.Answers.{IsWithinReach}
use Rattle.binders.specs.PlainMaps.{put_index_reach}
use Rattle.rules_narrow.specs.Narrow.{further, is_range, start}
use Rattle.rules_narrow.proofs.PlaceLaws.{range_scoped, start_fits, turn_reach}
use Rattle.term_tree.specs.Counts.{node_depth}
use Rattle.term_tree.specs.Syntax.{sum}
use Rattle.term_tree.specs.declared.term.Term.{Term}
use Rattle.rules_narrow.proofs.narrow.sum_narrow.Goals as goal

pub narrowed-requires-clause-fits : goal.narrowed-requires-clause-fits
narrowed-requires-clause-fits c =
    let f = c.args.focus.now in
    let n = c.in-Some.n.now in
    let a = c.in-Some-two_indices.a.now in
    let m = c.in-Some-two_indices.m.now in
    let term = sym c.get.ensures ∙ c.in-Some.ensures ∙ (λ i. sum n (c.in-Some-as_guard.ensures i)) in
    let answered : is_range f.facts a m ≡ true = search rules in
    start_fits f c.requires n c.in-Some-as_guard.cond.now c.in-Some-as_guard._body.now term a (range_scoped f.facts a m answered)

pub narrowed-requires-clause-deep : goal.narrowed-requires-clause-deep
narrowed-requires-clause-deep c =
    let f = c.args.focus.now in
    let n = c.in-Some.n.now in
    let a = c.in-Some-two_indices.a.now in
    let m = c.in-Some-two_indices.m.now in
    let term = sym c.get.ensures ∙ c.in-Some.ensures ∙ (λ i. sum n (c.in-Some-as_guard.ensures i)) in
    let answered : is_range f.facts a m ≡ true = search rules in
    subst (λ (e : Term). node_depth e ≤ 2147483647) (sym c.in-Some-as_guard.ensures)
    (turn_reach f c.requires n c.in-Some-as_guard.cond.now c.in-Some-as_guard._body.now term a (range_scoped f.facts a m answered)).0

pub narrowed-requires-clause-within : goal.narrowed-requires-clause-within
narrowed-requires-clause-within c =
    let f = c.args.focus.now in
    let n = c.in-Some.n.now in
    let a = c.in-Some-two_indices.a.now in
    let m = c.in-Some-two_indices.m.now in
    let term = sym c.get.ensures ∙ c.in-Some.ensures ∙ (λ i. sum n (c.in-Some-as_guard.ensures i)) in
    let answered : is_range f.facts a m ≡ true = search rules in
    subst (λ (e : Term). IsWithinReach (put_index_reach (further (start a) ∷ []) 1) e) (sym c.in-Some-as_guard.ensures)
    (turn_reach f c.requires n c.in-Some-as_guard.cond.now c.in-Some-as_guard._body.now term a (range_scoped f.facts a m answered)).1
