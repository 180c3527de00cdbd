use Rattle.std.proofs.Common.{rules, ◌≡◌, ◌∙◌, ap, refl, arith, get_or, eqb, [], ◌∷◌, ◌++◌}
use Rattle.std.specs.Prelude.{pos, ◌+ℤ◌, ◌*ℤ◌, if◌then◌else◌}
use Rattle.std.specs.Int.RustNames.{unsigned_abs}
use Rattle.std.proofs.lemmas.Int.{to_z-of_z}
use mir.Syntax.{w64}
use mir.Val.{SFits}
use Rattle.linear_cert.proofs.AttemptLaws.{fits-at, times-all, times-next}
use Rattle.linear_cert.proofs.attempt.more_times.Goals as goal

pub next_time-time-requires-clause-time : goal.next_time-time-requires-clause-time
next_time-time-requires-clause-time c =
    let z = get_or c.args.times.now c.loop-i.i (pos 0) in
    let wide : SFits w64 z = search rules in
    let h = fits-at c.args.times.now c.loop-i.i (pos 0) z c.loop-i-test.true refl c.requires.fit in
    omega (arith, h, ap unsigned_abs (to_z-of_z w64 z wide))

pub loop-i-preserved : goal.loop-i-preserved
loop-i-preserved c =
    let z = get_or c.args.times.now c.loop-i.i (pos 0) in
    let wide : SFits w64 z = search rules in
    let v = c.next_time-time.result in
    let broad : SFits w64 v = search rules in
    let value : v ≡ (pos c.args.by *ℤ z) +ℤ pos (if eqb c.loop-i.i c.args.at then c.args.amount else 0) =
    c.next_time-time.ensures ∙ (λ k. (pos c.args.by *ℤ to_z-of_z w64 z wide k) +ℤ pos (c.only_at.ensures.is k)) in
    times-next c.args.by c.args.times.now c.loop-i.i c.args.at c.args.amount (pos 0) z v c.loop-i.more c.push.new.self c.loop-i-test.true refl value
    c.loop-i.invariant (c.in_ok-push.ensures.ok ∙ (λ k. c.loop-i.more ++ to_z-of_z w64 v broad k ∷ []))

pub returns : goal.returns
returns c = times-all c.args.by c.args.times.now c.loop-i.i c.args.at (pos c.args.amount) c.loop-i.more (omega (arith, c.loop-i-test.false)) c.loop-i.invariant
