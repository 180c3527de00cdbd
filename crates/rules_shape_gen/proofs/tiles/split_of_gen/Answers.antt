use Rattle.std.proofs.Common.{rules, ap, sym, subst, ◌∙◌, ◌≤◌, length}
use Rattle.std.specs.Prelude.{pos}
use Rattle.affine_index.specs.Form.{literal_form}
use Rattle.path_focus.specs.Outcome.{IsOutcome, Meant}
use Rattle.rule_parts.proofs.PatternLaws.{no_arguments}
use Rattle.rules_loop.specs.Tilings.{guarded}
use Rattle.rules_shape_gen.specs.Table as table
use Rattle.rules_shape_gen.proofs.ReachLaws.{split_reach, split_tile}
use Rattle.term_tree.specs.Shape.{tiles}
use Rattle.term_tree.specs.Syntax.{gen, split}
use Rattle.term_tree.specs.declared.term.Term.{Term}
use Rattle.rules_shape_gen.proofs.tiles.split_of_gen.Goals as goal

pub tile_rows-requires-clause-positive : goal.tile_rows-requires-clause-positive
tile_rows-requires-clause-positive c =
    (split_tile c.args.focus.now c.requires c.in-Some.k c.in-Some-as_gen.n.now c.in-Some-as_gen.body.now
    (sym c.get.ensures ∙ c.in-Some.ensures ∙ (λ i. split c.in-Some.k (c.in-Some-as_gen.ensures i)))).positive

pub tile_rows-requires-clause-limit : goal.tile_rows-requires-clause-limit
tile_rows-requires-clause-limit c =
    (split_tile c.args.focus.now c.requires c.in-Some.k c.in-Some-as_gen.n.now c.in-Some-as_gen.body.now
    (sym c.get.ensures ∙ c.in-Some.ensures ∙ (λ i. split c.in-Some.k (c.in-Some-as_gen.ensures i)))).high

pub tile_rows-requires-clause-deep : goal.tile_rows-requires-clause-deep
tile_rows-requires-clause-deep c =
    (split_reach c.args.focus.now c.requires c.in-Some.k c.in-Some-as_gen.n.now c.in-Some-as_gen.body.now
    (sym c.get.ensures ∙ c.in-Some.ensures ∙ (λ i. split c.in-Some.k (c.in-Some-as_gen.ensures i)))).0

pub tile_rows-requires-clause-within : goal.tile_rows-requires-clause-within
tile_rows-requires-clause-within c =
    (split_reach c.args.focus.now c.requires c.in-Some.k c.in-Some-as_gen.n.now c.in-Some-as_gen.body.now
    (sym c.get.ensures ∙ c.in-Some.ensures ∙ (λ i. split c.in-Some.k (c.in-Some-as_gen.ensures i)))).1

pub returns : goal.returns
returns c =
    let k = c.in-Some.k in
    let n = c.in-Some-as_gen.n.now in
    let b = c.in-Some-as_gen.body.now in
    let term = sym c.get.ensures ∙ c.in-Some.ensures ∙ (λ i. split c.in-Some.k (c.in-Some-as_gen.ensures i)) in
    let none : length c.args.args.now ≤ 0 = search rules in
    subst (λ (m : Meant). IsOutcome m c.drafted.result)
    (sym (ap (λ (t : Term). table.split_of_gen (record c.args.focus.now { term = t }) c.args.args.now) term ∙ no_arguments c.args.args.now _ none))
    (c.drafted.ensures (gen (tiles k n) (gen (literal_form (pos k)) (guarded k n b))) (c.in_ok-draft.ensures {u = tt}))
