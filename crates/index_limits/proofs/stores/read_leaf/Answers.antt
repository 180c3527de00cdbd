use Rattle.std.proofs.Common.{◌≡◌, Err, Some, rules, subst}
use Rattle.final_rules.specs.Printed.{form_small}
use Rattle.final_rules.specs.Printing.{Counts, Sized, next, read_sized}
use Rattle.index_limits.specs.Places.{stored_at}
use Rattle.index_limits.proofs.CountLaws.{stop-counts, then-counts}
use Rattle.index_limits.proofs.LeafLaws.{read-first}
use Rattle.index_limits.proofs.ReadLaws.{full-place, full-store}
use Rattle.index_limits.proofs.stores.read_leaf.Goals as goal

pub store_index-requires-clause-ready : goal.store_index-requires-clause-ready
store_index-requires-clause-ready c =
    full-store c.args.maxima.now c.args.vars.now c.args.scene.now c.args.target.now c.args.read.now c.args.spot.now c.requires.ready

pub read_index-requires : goal.read_index-requires
read_index-requires c = record {
  ready = full-place c.args.maxima.now c.args.vars.now c.args.scene.now c.args.target.now c.args.read.now c.args.spot.now c.requires.ready;
}

pub returns : goal.returns
returns c =
    let m = c.args.maxima.now in
    let first = next (form_small m c.args.vars.now (stored_at c.args.target.now c.args.spot.now)) c.args.number in
    subst (λ (s : Sized). Counts s c.read_index.result)
    (read-first m c.args.vars.now c.args.scene.now c.args.target.now c.args.spot.now c.requires.ready.most c.args.read.now c.args.number)
    (then-counts first c.in_ok-number.number (read_sized m c.args.vars.now c.args.scene.now (Some c.args.read.now)) c.read_index.result c.in_ok-number.ensures
    c.read_index.ensures)

pub returns-in_err-number : goal.returns-in_err-number
returns-in_err-number c =
    let m = c.args.maxima.now in
    let first = next (form_small m c.args.vars.now (stored_at c.args.target.now c.args.spot.now)) c.args.number in
    let error = c.in_err-number.field-0.0 in
    let is : c.from_residual.result ≡ Err error = search rules in
    subst (λ (s : Sized). Counts s c.from_residual.result)
    (read-first m c.args.vars.now c.args.scene.now c.args.target.now c.args.spot.now c.requires.ready.most c.args.read.now c.args.number)
    (stop-counts first (read_sized m c.args.vars.now c.args.scene.now (Some c.args.read.now)) c.from_residual.result error is c.in_err-number.ensures)
