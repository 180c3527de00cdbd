use Rattle.std.proofs.Common.{rules, ◌≡◌, ◌∙◌, ap, arith, get_or}
use Rattle.std.specs.Prelude.{pos, ◌+ℤ◌, ◌*ℤ◌, slice_set}
use Rattle.std.specs.Int.RustNames.{unsigned_abs}
use Rattle.std.proofs.lemmas.Int.{to_z-of_z}
use mir.Syntax.{w64}
use mir.Val.{SFits}
use Rattle.linear_cert.proofs.AttemptLaws.{fits-at, set-more}
use Rattle.linear_cert.proofs.attempt.one_more.Goals as goal

pub next_time-time-requires-clause-time : goal.next_time-time-requires-clause-time
next_time-time-requires-clause-time c =
    let z = get_or c.as_slice.result.now c.args.at (pos 0) in
    let wide : SFits w64 z = search rules in
    let h = fits-at c.args.times c.args.at (pos 0) z c.requires.within (ap (λ zs. get_or zs c.args.at (pos 0)) c.as_slice.ensures) c.requires.fit in
    omega (arith, h, ap unsigned_abs (to_z-of_z w64 z wide))

pub returns : goal.returns
returns c =
    let z = get_or c.as_slice.result.now c.args.at (pos 0) in
    let wide : SFits w64 z = search rules in
    let v = c.next_time-time.result in
    let broad : SFits w64 v = search rules in
    let value : v ≡ (pos 1 *ℤ z) +ℤ pos c.args.amount = c.next_time-time.ensures ∙ (λ k. (pos 1 *ℤ to_z-of_z w64 z wide k) +ℤ pos c.args.amount) in
    c.set.ensures ∙ (λ k. slice_set c.args.times c.args.at (to_z-of_z w64 v broad k))
    ∙ set-more c.args.times c.args.at c.args.amount (pos 0) z v c.requires.within (ap (λ zs. get_or zs c.args.at (pos 0)) c.as_slice.ensures) value
