use Rattle.std.proofs.Common.{rules, ◌≡◌, ◌≤◌, length, ap, refl, sym, subst, ◌∙◌, [], Some}
use Rattle.std.specs.Prelude.{pos}
use Rattle.affine_index.specs.Sum.{scaled}
use Rattle.path_focus.specs.Outcome.{IsOutcome, Makes, Meant, Unlike, without_arguments}
use Rattle.term_tree.specs.Syntax.{flatten, gen}
use Rattle.term_tree.specs.declared.term.Term.{Term}
use Rattle.rules_loop.specs.Tilings as table
use Rattle.rules_loop.specs.Tilings.{fused, tile_of, with_number}
use Rattle.rule_parts.proofs.PatternLaws.{no_arguments}
use Rattle.rules_loop.proofs.ReachLaws.{fuse_reach}
use Rattle.rules_loop.proofs.TilingLaws.{tile_is}
use Rattle.rules_loop.proofs.fusing.fuse_gen.Goals as goal

pub fused-requires-clause-tile : goal.fused-requires-clause-tile
fused-requires-clause-tile c =
    (tile_is c.in-Some-as_gen-2.m.now c.in-Some-tile_size.k (sym c.tile_size.ensures ∙ c.in-Some-tile_size.is)).1

pub fused-requires-clause-deep : goal.fused-requires-clause-deep
fused-requires-clause-deep c =
    let term = sym c.get.ensures ∙ c.in-Some.ensures
    ∙ (λ i. flatten ((c.in-Some-as_gen.ensures ∙ (λ j. gen c.in-Some-as_gen.n.now (c.in-Some-as_gen-2.ensures j))) i)) in
    (fuse_reach c.args.focus.now c.requires (flatten (gen c.in-Some-as_gen.n.now (gen c.in-Some-as_gen-2.m.now c.in-Some-as_gen-2.body.now)))
    c.in-Some-as_gen-2.body.now c.in-Some-as_gen.n.now c.in-Some-as_gen-2.m.now c.in-Some-tile_size.k term refl refl).0

pub fused-requires-clause-within : goal.fused-requires-clause-within
fused-requires-clause-within c =
    let term = sym c.get.ensures ∙ c.in-Some.ensures
    ∙ (λ i. flatten ((c.in-Some-as_gen.ensures ∙ (λ j. gen c.in-Some-as_gen.n.now (c.in-Some-as_gen-2.ensures j))) i)) in
    (fuse_reach c.args.focus.now c.requires (flatten (gen c.in-Some-as_gen.n.now (gen c.in-Some-as_gen-2.m.now c.in-Some-as_gen-2.body.now)))
    c.in-Some-as_gen-2.body.now c.in-Some-as_gen.n.now c.in-Some-as_gen-2.m.now c.in-Some-tile_size.k term refl refl).1

pub returns : goal.returns
returns c =
    let term = sym c.get.ensures ∙ c.in-Some.ensures
    ∙ (λ i. flatten ((c.in-Some-as_gen.ensures ∙ (λ j. gen c.in-Some-as_gen.n.now (c.in-Some-as_gen-2.ensures j))) i)) in
    let n = c.in-Some-as_gen.n.now in
    let b = c.in-Some-as_gen-2.body.now in
    let k = c.in-Some-tile_size.k in
    let size : tile_of c.in-Some-as_gen-2.m.now ≡ Some k = sym c.tile_size.ensures ∙ c.in-Some-tile_size.is in
    let none : length c.args.args.now ≤ 0 = search rules in
    let draft = c.in_ok-draft.ensures {u = tt} (scaled (pos k) n) (fused k b) (c.in_ok-count.ensures {u = tt}) (c.in_ok-body.ensures {u = tt}) in
    subst (λ (m : Meant). IsOutcome m c.drafted.result)
    (sym (ap (λ (t : Term). table.fuse_gen (record c.args.focus.now { term = t }) c.args.args.now) term
    ∙ (λ i. with_number (size i) Unlike (λ k. without_arguments c.args.args.now (Makes (gen (scaled (pos k) n) (fused k b)) [])))
    ∙ no_arguments c.args.args.now _ none)) (c.drafted.ensures (gen (scaled (pos k) n) (fused k b)) draft)
