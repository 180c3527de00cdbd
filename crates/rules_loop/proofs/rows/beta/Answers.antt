use Rattle.std.proofs.Common.{rules, ap, sym, subst, ◌∙◌, ◌≤◌, length, [], ◌∷◌}
use Rattle.affine_index.specs.declared.form.Items.{Items}
use Rattle.binders.specs.Answers.{IsWithinReach}
use Rattle.binders.specs.PlainMaps.{put_index_reach}
use Rattle.path_focus.specs.Making.{one_of_rows, with_index}
use Rattle.path_focus.specs.Outcome.{IsDraft}
use Rattle.term_tree.specs.Syntax.{index}
use Rattle.term_tree.specs.declared.term.Term.{Term}
use Rattle.rules_loop.specs.Table as table
use Rattle.rule_parts.proofs.DraftLaws.{makes}
use Rattle.rule_parts.proofs.PatternLaws.{no_arguments}
use Rattle.rules_loop.proofs.ReachLaws.{beta_reach}
use Rattle.rules_loop.proofs.rows.beta.Goals as goal

pub with_index-requires-clause-deep : goal.with_index-requires-clause-deep
with_index-requires-clause-deep c =
    let term = sym c.get.ensures ∙ c.in-Some.ensures ∙ (λ i. index (c.in-Some-as_gen.ensures i) c.in-Some.x.now) in
    (beta_reach c.args.focus.now c.requires c.in-Some-as_gen.n.now c.in-Some-as_gen.body.now c.in-Some.x.now term).0

pub with_index-requires-clause-within : goal.with_index-requires-clause-within
with_index-requires-clause-within c =
    let term = sym c.get.ensures ∙ c.in-Some.ensures ∙ (λ i. index (c.in-Some-as_gen.ensures i) c.in-Some.x.now) in
    subst (λ (x : Items). IsWithinReach (put_index_reach (x ∷ []) 0) c.in-Some-as_gen.body.now) (sym (c.in_ok-x.ensures {u = tt}))
    (beta_reach c.args.focus.now c.requires c.in-Some-as_gen.n.now c.in-Some-as_gen.body.now c.in-Some.x.now term).1

pub returns : goal.returns
returns c =
    let term = sym c.get.ensures ∙ c.in-Some.ensures ∙ (λ i. index (c.in-Some-as_gen.ensures i) c.in-Some.x.now) in
    let none : length c.args.args.now ≤ 0 = search rules in
    makes (table.beta c.args.focus.now c.args.args.now) (with_index c.in-Some.x.now c.in-Some-as_gen.body.now)
    (one_of_rows c.args.focus.now.facts c.in-Some-as_gen.n.now c.in-Some.x.now) _
    (ap (λ (t : Term). table.beta (record c.args.focus.now { term = t }) c.args.args.now) term ∙ no_arguments c.args.args.now _ none)
    (c.in_ok-conditions.ensures {u = tt})
    (subst (λ (x : Items). IsDraft (with_index x c.in-Some-as_gen.body.now) c.in_ok-draft.draft) (c.in_ok-x.ensures {u = tt}) (c.in_ok-draft.ensures {u = tt}))
