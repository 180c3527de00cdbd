use Rattle.std.proofs.Common.{◌≡◌, Err, rules}
use Rattle.reindexer.specs.Limited.{limited}
use Rattle.region_plan.specs.Needed.{words_form}
use Rattle.final_rules.specs.Printed.{form_small}
use Rattle.final_rules.specs.Printing.{next}
use Rattle.index_limits.specs.Places.{free_of}
use Rattle.index_limits.proofs.FillLaws.{fill-none, fill-then, keep-stop}
use Rattle.index_limits.proofs.walk.fill.Goals as goal

pub returns-in_err-offset : goal.returns-in_err-offset
returns-in_err-offset c =
    let ns = c.args.extents in
    let free = free_of c.args.room.now in
    let error = c.in_err-offset.field-0.0 in
    let is : c.from_residual.result ≡ Err error = search rules in
    let first = next (form_small c.args.maxima.now c.args.vars.now (limited free)) c.args.number in
    fill-none first (next (form_small c.args.maxima.now c.args.vars.now (words_form ns))) free ns c.from_residual.result error is
    (keep-stop first (limited free) error (c.in_err-offset.ensures (limited free) c.sum-place.ensures))

pub returns : goal.returns
returns c =
    let ns = c.args.extents in
    let free = free_of c.args.room.now in
    let k = c.in_ok-offset.ensures (limited free) c.sum-place.ensures in
    let first = next (form_small c.args.maxima.now c.args.vars.now (limited free)) c.args.number in
    fill-then first (next (form_small c.args.maxima.now c.args.vars.now (words_form ns))) c.in_ok-offset.offset.number free c.in_ok-offset.offset.form ns
    c.fill_length.result k.0 k.1 c.fill_length.ensures
