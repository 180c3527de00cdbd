use Rattle.std.proofs.Common.{ap, refl, sym, subst, ◌∙◌}
use Rattle.std.specs.Prelude.{pos}
use Rattle.affine_index.specs.Form.{literal_form}
use Rattle.path_focus.specs.Making.{tile_rest}
use Rattle.path_focus.specs.Outcome.{IsOutcome, Meant}
use Rattle.term_tree.specs.Shape.{tiles}
use Rattle.term_tree.specs.Syntax.{flatten, gen, trunc_r}
use Rattle.term_tree.specs.declared.term.Term.{Term}
use Rattle.rules_loop.specs.Tilings as table
use Rattle.rules_loop.specs.Tilings.{guarded}
use Rattle.rules_loop.proofs.ReachLaws.{tile_reach}
use Rattle.rules_loop.proofs.tilings.split_gen.Goals as goal

pub guarded-requires-clause-deep : goal.guarded-requires-clause-deep
guarded-requires-clause-deep c =
    (tile_reach c.args.focus.now c.requires (gen c.in-Some.n.now c.in-Some.body.now) c.in-Some.body.now c.in-Some.n.now c.in-Some-tile_argument.k
    (sym c.get.ensures ∙ c.in-Some.ensures) refl refl).0

pub guarded-requires-clause-within : goal.guarded-requires-clause-within
guarded-requires-clause-within c =
    (tile_reach c.args.focus.now c.requires (gen c.in-Some.n.now c.in-Some.body.now) c.in-Some.body.now c.in-Some.n.now c.in-Some-tile_argument.k
    (sym c.get.ensures ∙ c.in-Some.ensures) refl refl).1

pub tiles-requires-clause-positive : goal.tiles-requires-clause-positive
tiles-requires-clause-positive c = c.in-Some-tile_argument.ensures.0.positive

pub tiles-requires-clause-limit : goal.tiles-requires-clause-limit
tiles-requires-clause-limit c = c.in-Some-tile_argument.ensures.0.high

pub tile_gens-requires : goal.tile_gens-requires
tile_gens-requires c = c.in-Some-tile_argument.ensures.0.high

pub cut_back-requires : goal.cut_back-requires
cut_back-requires c = c.in-Some-tile_argument.ensures.0

pub returns : goal.returns
returns c =
    let term = sym c.get.ensures ∙ c.in-Some.ensures in
    let k = c.in-Some-tile_argument.k in
    let n = c.in-Some.n.now in
    let b = c.in-Some.body.now in
    let body = c.in_ok-body.ensures {u = tt} in
    let count = c.in_ok-count.ensures {u = tt} (tiles k n) c.tiles.ensures in
    let rows = c.in_ok-rows.ensures {u = tt} (tiles k n) (guarded k n b) count body in
    let draft = c.in_ok-draft.ensures {u = tt} (gen (tiles k n) (gen (literal_form (pos k)) (guarded k n b))) rows in
    subst (λ (m : Meant). IsOutcome m c.drafted.result)
    (sym (ap (λ (t : Term). table.split_gen (record c.args.focus.now { term = t }) c.args.args.now) term ∙ c.in-Some-tile_argument.ensures.1 _))
    (c.drafted.ensures (trunc_r (tile_rest k n) (flatten (gen (tiles k n) (gen (literal_form (pos k)) (guarded k n b))))) draft)
