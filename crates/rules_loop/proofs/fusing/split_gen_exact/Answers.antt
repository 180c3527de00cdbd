use Rattle.std.proofs.Common.{rules, ◌≡◌, ap, refl, sym, subst, ◌∙◌, [], true, false, if◌then◌else◌}
use Rattle.std.specs.Prelude.{pos}
use Rattle.affine_index.specs.Form.{literal_form}
use Rattle.affine_index.specs.Quotient.{quotient_of}
use Rattle.path_focus.specs.Outcome.{IsOutcome, Makes, Meant, Unfit}
use Rattle.term_tree.specs.Syntax.{flatten, gen}
use Rattle.term_tree.specs.declared.term.Term.{Term}
use Rattle.rules_loop.specs.Tilings as table
use Rattle.rules_loop.specs.Tilings.{divides, in_tiles}
use Rattle.rule_parts.proofs.DraftLaws.{unfit}
use Rattle.rules_loop.proofs.ReachLaws.{tile_reach}
use Rattle.rules_loop.proofs.fusing.split_gen_exact.Goals as goal

pub in_tiles-requires-clause-deep : goal.in_tiles-requires-clause-deep
in_tiles-requires-clause-deep c =
    (tile_reach c.args.focus.now c.requires (gen c.in-Some.n.now c.in-Some.body.now) c.in-Some.body.now c.in-Some.n.now c.in-Some-tile_argument.k
    (sym c.get.ensures ∙ c.in-Some.ensures) refl refl).0

pub in_tiles-requires-clause-within : goal.in_tiles-requires-clause-within
in_tiles-requires-clause-within c =
    (tile_reach c.args.focus.now c.requires (gen c.in-Some.n.now c.in-Some.body.now) c.in-Some.body.now c.in-Some.n.now c.in-Some-tile_argument.k
    (sym c.get.ensures ∙ c.in-Some.ensures) refl refl).1

pub divides-requires : goal.divides-requires
divides-requires c = c.in-Some-tile_argument.ensures.0.positive

pub div-requires-clause-positive : goal.div-requires-clause-positive
div-requires-clause-positive c = c.in-Some-tile_argument.ensures.0.positive

pub div-requires-clause-limit : goal.div-requires-clause-limit
div-requires-clause-limit c = c.in-Some-tile_argument.ensures.0.high

pub tile_gens-requires : goal.tile_gens-requires
tile_gens-requires c = c.in-Some-tile_argument.ensures.0.high

pub returns-then-not-divides : goal.returns-then-not-divides
returns-then-not-divides c =
    let term = sym c.get.ensures ∙ c.in-Some.ensures in
    let k = c.in-Some-tile_argument.k in
    let n = c.in-Some.n.now in
    let not_whole : divides k n ≡ false = search rules in
    unfit (table.split_gen_exact c.args.focus.now c.args.args.now)
    (ap (λ (t : Term). table.split_gen_exact (record c.args.focus.now { term = t }) c.args.args.now) term ∙ c.in-Some-tile_argument.ensures.1 _
    ∙ (λ i. if not_whole i then Makes (flatten (gen (quotient_of n k) (gen (literal_form (pos k)) (in_tiles k c.in-Some.body.now)))) [] else Unfit))

pub returns : goal.returns
returns c =
    let term = sym c.get.ensures ∙ c.in-Some.ensures in
    let k = c.in-Some-tile_argument.k in
    let n = c.in-Some.n.now in
    let b = c.in-Some.body.now in
    let whole : divides k n ≡ true = search rules in
    let body = c.in_ok-body.ensures {u = tt} in
    let count = c.in_ok-count.ensures {u = tt} (quotient_of n k) c.div.ensures.form in
    let rows = c.in_ok-rows.ensures {u = tt} (quotient_of n k) (in_tiles k b) count body in
    let draft = c.in_ok-draft.ensures {u = tt} (gen (quotient_of n k) (gen (literal_form (pos k)) (in_tiles k b))) rows in
    subst (λ (m : Meant). IsOutcome m c.drafted.result)
    (sym (ap (λ (t : Term). table.split_gen_exact (record c.args.focus.now { term = t }) c.args.args.now) term ∙ c.in-Some-tile_argument.ensures.1 _
    ∙ (λ i. if whole i then Makes (flatten (gen (quotient_of n k) (gen (literal_form (pos k)) (in_tiles k b)))) [] else Unfit)))
    (c.drafted.ensures (flatten (gen (quotient_of n k) (gen (literal_form (pos k)) (in_tiles k b)))) draft)
