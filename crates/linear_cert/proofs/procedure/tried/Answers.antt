use Rattle.std.proofs.Common.{◌≡◌, ◌∙◌, ap, sym, subst, arith, length, IfOk}
use Rattle.std.specs.Prelude.{slice_set}
use Rattle.std.proofs.lemmas.Int.{to_z-of_z}
use mir.Syntax.{w64}
use Rattle.affine_index.specs.Sum.{difference_of, scaled}
use Rattle.linear_cert.proofs.RoomLaws.{length-none}
use Rattle.linear_cert.proofs.ProcedureLaws.{set-once, with-room}
use Rattle.linear_cert.specs.DefaultLines.{carried_on}
use Rattle.linear_cert.specs.Room.{Room}
use Rattle.linear_cert.specs.declared.attempt.Attempt.{Attempt}
use Rattle.linear_cert.proofs.procedure.tried.Goals as goal

pub set-requires : goal.set-requires
set-requires c = omega (arith, c.requires.within, ap length (c.in_ok-times.ensures {u = tt}), length-none c.args.facts.now)

pub carried_on-requires-clause-room : goal.carried_on-requires-clause-room
carried_on-requires-clause-room c =
    let times = c.set.ensures ∙ (λ k. slice_set (c.in_ok-times.ensures {u = tt} k) c.args.at (to_z-of_z w64 c.args.by c.ranges.by k))
    ∙ set-once c.args.facts.now c.args.at c.args.by in
    let left = c.in_ok-left.ensures {u = tt} ∙ ap (λ z. difference_of c.args.goal.now (scaled z c.args.form.now)) (to_z-of_z w64 c.args.by c.ranges.by) in
    subst (Room c.args.facts.now 0) (λ k. record { left = sym left k; goal_times = 1; times = sym times k })
    (with-room c.args.facts.now c.args.goal.now c.args.form.now c.args.at c.args.by c.told.ensures c.told-2.ensures c.requires.once)

pub returns : goal.returns
returns c =
    let times = c.set.ensures ∙ (λ k. slice_set (c.in_ok-times.ensures {u = tt} k) c.args.at (to_z-of_z w64 c.args.by c.ranges.by k))
    ∙ set-once c.args.facts.now c.args.at c.args.by in
    let left = c.in_ok-left.ensures {u = tt} ∙ ap (λ z. difference_of c.args.goal.now (scaled z c.args.form.now)) (to_z-of_z w64 c.args.by c.ranges.by) in
    subst (λ (a : Attempt). IfOk c.carried_on.result (λ lines. lines ≡ carried_on 512 c.args.facts.now a))
    (λ k. record { left = left k; goal_times = 1; times = times k }) c.carried_on.ensures
