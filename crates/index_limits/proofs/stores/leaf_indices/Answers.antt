use Rattle.std.proofs.Common.{◌≡◌, Err, rules, subst}
use Rattle.final_rules.specs.Printed.{form_small, word_printed}
use Rattle.final_rules.specs.Printing.{Counts, Sized, next, sized}
use Rattle.index_limits.specs.Places.{place_at, stored_at}
use Rattle.index_limits.proofs.CountLaws.{stop-counts, then-counts}
use Rattle.index_limits.proofs.LeafLaws.{leaf-first, stands}
use Rattle.index_limits.proofs.stores.leaf_indices.Goals as goal

pub returns : goal.returns
returns c free =
    let m = c.args.maxima.now in
    let p = place_at c.args.scene.now c.args.target.now free c.args.spot.now in
    let first = next (form_small m c.args.vars.now (stored_at c.args.target.now c.args.spot.now)) c.args.number in
    subst (λ (s : Sized). Counts s c.word_indices.result)
    (leaf-first m c.args.vars.now c.args.scene.now c.args.target.now c.args.spot.now c.requires.ready.most free c.args.term.now c.args.number)
    (then-counts first c.in_ok-number.number (sized m (word_printed c.args.term.now p)) c.word_indices.result c.in_ok-number.ensures
    (c.word_indices.ensures p (stands m c.args.vars.now c.args.scene.now c.args.target.now c.args.spot.now c.requires.ready.most free)))

pub returns-in_err-number : goal.returns-in_err-number
returns-in_err-number c free =
    let m = c.args.maxima.now in
    let p = place_at c.args.scene.now c.args.target.now free c.args.spot.now in
    let first = next (form_small m c.args.vars.now (stored_at c.args.target.now c.args.spot.now)) c.args.number in
    let error = c.in_err-number.field-0.0 in
    let is : c.from_residual.result ≡ Err error = search rules in
    subst (λ (s : Sized). Counts s c.from_residual.result)
    (leaf-first m c.args.vars.now c.args.scene.now c.args.target.now c.args.spot.now c.requires.ready.most free c.args.term.now c.args.number)
    (stop-counts first (sized m (word_printed c.args.term.now p)) c.from_residual.result error is c.in_err-number.ensures)
