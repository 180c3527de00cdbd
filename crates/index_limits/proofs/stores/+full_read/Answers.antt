use Rattle.std.proofs.Common.{◌≡◌, ◌∷◌, ◌∙◌, ◌-◌, ◌≤◌, Err, ap, arith, drop, length, rules, take}
use Rattle.region_plan.proofs.WalkLaws.{falls}
use Rattle.final_rules.specs.Form.{one_deeper}
use Rattle.final_rules.specs.Places.{one_gen}
use Rattle.index_limits.proofs.FillLaws.{enter-stop}
use Rattle.index_limits.proofs.LeafLaws.{full-stop, full-then}
use Rattle.index_limits.proofs.ReadLaws.{full-moves, full-step, full-bound-of}
use Rattle.index_limits.proofs.ScopeLaws.{front}
use Rattle.index_limits.proofs.stores.+full_read.Goals as goal

pub returns-in_err-inner-in-len1-up : goal.returns-in_err-inner-in-len1-up
returns-in_err-inner-in-len1-up t c =
    let n = c.extent-item.result in
    let ms = c.args.extents.now in
    let rest = take (length ms - 1) (drop 1 ms) in
    let parts : ms ≡ n ∷ rest = front ms n c.in-len1-up.len_at_least c.extent-item.is in
    let error = c.in_err-inner-in-len1-up.field-0.0 in
    let is : c.from_residual.result ≡ Err error = search rules in
    full-stop c.args.maxima.now c.args.vars.now c.args.scene.now c.args.target.now c.args.spot.now ms n rest c.args.read.now c.args.number
    c.from_residual.result error parts
    (full-bound-of c.args.maxima.now c.args.vars.now c.args.scene.now c.args.target.now ms n rest c.args.read.now c.args.spot.now parts c.requires.ready) is
    (enter-stop c.args.maxima.now c.args.vars.now n c.args.number error c.in_err-inner-in-len1-up.ensures)

pub one_deeper-requires : goal.one_deeper-requires
one_deeper-requires t c =
    full-moves c.args.maxima.now c.args.vars.now c.args.scene.now c.args.target.now c.args.extents.now c.args.read.now c.args.spot.now c.requires.few
    c.requires.ready

pub full_read-requires : goal.full_read-requires
full_read-requires t c =
    let n = c.extent-item.result in
    let ms = c.args.extents.now in
    let rest = take (length ms - 1) (drop 1 ms) in
    let parts : ms ≡ n ∷ rest = front ms n c.in-len1-up.len_at_least c.extent-item.is in
    let below = c.in_ok-deeper-in-len1-up.below in
    let deeper = c.in_ok-deeper-in-len1-up.deeper in
    let read : deeper ≡ one_deeper c.args.read.now = search rules in
    let spot : below ≡ one_gen n c.args.spot.now = search rules in
    let few : length below.path ≤ 2147483647 = search rules in (
      falls c.decreases (omega (arith, ap length parts)),
      (
        few,
        full-step c.args.maxima.now c.args.vars.now c.args.scene.now c.args.target.now ms n rest c.args.read.now deeper c.args.spot.now below
            c.as_slice-vars.result.now parts (c.as_slice-vars.ensures ∙ c.in_ok-inner-in-len1-up.ensures.1) read spot c.requires.ready,
      ),
    )

pub returns-in_ok-deeper-in-len1-up : goal.returns-in_ok-deeper-in-len1-up
returns-in_ok-deeper-in-len1-up t c =
    let n = c.extent-item.result in
    let ms = c.args.extents.now in
    let rest = take (length ms - 1) (drop 1 ms) in
    let parts : ms ≡ n ∷ rest = front ms n c.in-len1-up.len_at_least c.extent-item.is in
    let below = c.in_ok-deeper-in-len1-up.below in
    let deeper = c.in_ok-deeper-in-len1-up.deeper in
    let read : deeper ≡ one_deeper c.args.read.now = search rules in
    let spot : below ≡ one_gen n c.args.spot.now = search rules in
    full-then c.args.maxima.now c.args.vars.now c.args.scene.now c.args.target.now c.args.spot.now ms n rest c.args.read.now deeper below c.args.number
    c.in_ok-inner-in-len1-up.inner.number c.full_read.result parts
    (full-bound-of c.args.maxima.now c.args.vars.now c.args.scene.now c.args.target.now ms n rest c.args.read.now c.args.spot.now parts
    c.requires.ready) read spot
    c.in_ok-inner-in-len1-up.ensures.0 c.full_read.ensures
