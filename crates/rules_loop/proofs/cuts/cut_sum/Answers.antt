use Rattle.std.proofs.Common.{rules, ◌≡◌, ap, refl, sym, subst, ◌∙◌, [], ◌∷◌, length, true, Some}
use Rattle.affine_index.specs.Limited.{items_scoped}
use Rattle.affine_index.specs.Sum.{difference_of}
use Rattle.affine_index.specs.declared.form.Items.{Items}
use Rattle.binders.specs.Answers.{IsWithinReach}
use Rattle.binders.specs.Maps.{mapped}
use Rattle.binders.specs.PlainMaps.{put_index_map, put_index_reach}
use Rattle.fact_list.specs.Facts.{where_normal}
use Rattle.path_focus.specs.Outcome.{IsDraft, Makes}
use Rattle.term_tree.specs.Syntax.{add, sum}
use Rattle.term_tree.specs.declared.term.Term.{Term}
use Rattle.rules_loop.specs.Cuts.{further, moved_by, within_extent}
use Rattle.rules_loop.specs.Table as table
use Rattle.rules_loop.proofs.CutArguments.{the_index}
use Rattle.rule_parts.proofs.DraftLaws.{makes}
use Rattle.rules_loop.proofs.ReachLaws.{cut_reach}
use Rattle.rules_loop.proofs.cuts.cut_sum.Goals as goal

pub sum_parts-requires-clause-deep : goal.sum_parts-requires-clause-deep
sum_parts-requires-clause-deep c =
    let scoped : items_scoped (length c.args.focus.now.facts.sizes) 0 c.in-Some-over_sizes.x.now ≡ true = search rules in
    (cut_reach c.args.focus.now c.requires (sum c.in-Some.n.now c.in-Some.body.now) c.in-Some.body.now c.in-Some.n.now c.in-Some-over_sizes.x.now
    (sym c.get.ensures ∙ c.in-Some.ensures) refl refl scoped).0

pub sum_parts-requires-clause-within : goal.sum_parts-requires-clause-within
sum_parts-requires-clause-within c =
    let scoped : items_scoped (length c.args.focus.now.facts.sizes) 0 c.in-Some-over_sizes.x.now ≡ true = search rules in
    let some : Some c.in-Some-2.index ≡ where_normal (further c.in-Some-over_sizes.x.now) = search rules in
    let k = the_index c.args.focus.now c.args.args.now c.in-Some-over_sizes.x.now c.in-Some-2.index
    (λ x. Makes (add (sum x c.in-Some.body.now) (sum (difference_of c.in-Some.n.now x) (moved_by x c.in-Some.body.now)))
    (within_extent c.args.focus.now.facts c.in-Some.n.now x))
    c.in-Some-over_sizes.ensures.0 scoped c.in-Some-over_sizes.ensures.2 some in
    subst (λ (x : Items). IsWithinReach (put_index_reach (x ∷ []) 1) c.in-Some.body.now) (sym k.0)
    (cut_reach c.args.focus.now c.requires (sum c.in-Some.n.now c.in-Some.body.now) c.in-Some.body.now c.in-Some.n.now c.in-Some-over_sizes.x.now
    (sym c.get.ensures ∙ c.in-Some.ensures) refl refl scoped).1

pub returns : goal.returns
returns c =
    let scoped : items_scoped (length c.args.focus.now.facts.sizes) 0 c.in-Some-over_sizes.x.now ≡ true = search rules in
    let some : Some c.in-Some-2.index ≡ where_normal (further c.in-Some-over_sizes.x.now) = search rules in
    let n = c.in-Some.n.now in
    let b = c.in-Some.body.now in
    let x = c.in-Some-over_sizes.x.now in
    let k = the_index c.args.focus.now c.args.args.now x c.in-Some-2.index
    (λ x. Makes (add (sum x c.in-Some.body.now) (sum (difference_of c.in-Some.n.now x) (moved_by x c.in-Some.body.now)))
    (within_extent c.args.focus.now.facts c.in-Some.n.now x))
    c.in-Some-over_sizes.ensures.0 scoped c.in-Some-over_sizes.ensures.2 some in
    makes (table.cut_sum c.args.focus.now c.args.args.now) (add (sum x b) (sum (difference_of n x) (moved_by x b)))
    (within_extent c.args.focus.now.facts n x) _
    (ap (λ (t : Term). table.cut_sum (record c.args.focus.now { term = t }) c.args.args.now) (sym c.get.ensures ∙ c.in-Some.ensures) ∙ k.1)
    (c.in_ok-conditions.ensures {u = tt})
    (subst (λ (y : Items). IsDraft (add (sum x b) (sum (difference_of n x) (mapped (put_index_map (y ∷ []) 1) 0 0 b))) c.in_ok-draft.draft) k.0
    (c.in_ok-draft.ensures {u = tt}))
