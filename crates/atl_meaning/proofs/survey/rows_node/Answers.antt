use Rattle.std.proofs.Common.{◌≡◌, ◌∙◌, ◌∷◌, [], ap, length, true}
use Rattle.std.proofs.lemmas.Result.{IfOk-at_ok}
use Rattle.term_tree.specs.Modules.{extents_scoped}
use Rattle.atl_meaning.specs.Surveyed.{found_at}
use Rattle.atl_meaning.specs.Words.{is_large}
use Rattle.atl_meaning.proofs.ExtentScopes.{rows-scoped}
use Rattle.atl_meaning.proofs.survey.rows_node.Goals as goal

pub at_node-requires-clause-scoped : goal.at_node-requires-clause-scoped
at_node-requires-clause-scoped c =
    ap (extents_scoped (length c.args.sizes.now))
    ((c.in_ok-extents.ensures {u = tt}) ∙ ap (λ n. n ∷ c.in_ok-child.child.extents) (c.in_ok-copy.ensures {u = tt}))
    ∙ rows-scoped (length c.args.sizes.now) c.args.count.now c.in_ok-child.child.extents c.requires.count
    (IfOk-at_ok (λ f. extents_scoped (length c.args.sizes.now) f.extents ≡ true) (c.in_ok-child.was {u = tt}) c.requires.scoped)

pub returns-clause-found : goal.returns-clause-found
returns-clause-found c =
    let s = c.args.sizes.now in
    let n = c.args.count.now in
    let child = c.in_ok-child.child in
    let ns = c.in_ok-extents.ensures {u = tt} ∙ ap (λ n. n ∷ child.extents) (c.in_ok-copy.ensures {u = tt}) in
    let large = c.is_large.ensures ∙ ap (λ floor. is_large floor [] n) c.requires.floor in
    let found = c.at_node.ensures.found ∙ ap (λ ns. found_at s ns c.is_large.result child.big) ns
    ∙ ap (λ large. found_at s (n ∷ child.extents) large child.big) large in
    (child, c.in_ok-child.was {u = tt}, found)
