use Rattle.std.proofs.Common.{◌∙◌, ap, arith, length}
use Rattle.std.proofs.Common.{rules, get_or}
use Rattle.std.specs.Prelude.{ℤ, pos}
use Rattle.std.proofs.lemmas.Int.{to_z-of_z}
use mir.Syntax.{w64}
use mir.Val.{SFits}
use Rattle.affine_index.specs.Sum.{scaled, sum_of}
use Rattle.linear_cert.specs.declared.lines.Line.{Line}
use Rattle.linear_cert.proofs.LineLaws.{few-room, good-at, good-next, lines-few, taken-next}
use Rattle.linear_cert.proofs.given.line_sum.Goals as goal

pub form_at-requires : goal.form_at-requires
form_at-requires c = good-at c.args.facts.now c.args.goal.now c.args.lines.now c.loop-i.i _ c.loop-i-test.true c.loop-i.invariant.good

pub added-requires-clause-room : goal.added-requires-clause-room
added-requires-clause-room c =
    few-room (length c.args.facts.now) (length c.args.lines.now) c.loop-i.i _ c.requires.few
    (lines-few c.args.facts.now c.args.goal.now c.args.lines.now c.requires.good) c.loop-i-test.true c.loop-i.invariant.room

pub loop-i-preserved : goal.loop-i-preserved
loop-i-preserved c =
    let none : Line = record { fact = 0; multiplier = pos 0 } in
    let line : Line = get_or c.args.lines.now c.loop-i.i none in
    let wide : SFits w64 line.multiplier = search rules in
    record {
      good = good-next c.args.facts.now c.args.goal.now c.args.lines.now c.loop-i.i c.loop-i-test.true c.loop-i.invariant.good;
      room = omega (arith, c.in_ok-total-2.ensures.norm, c.loop-i.invariant.room);
      rest = taken-next c.args.facts.now c.args.goal.now c.args.lines.now c.loop-i.i none c.loop-i.total c.in_ok-total-2.total c.in_ok-form.form
          c.loop-i-test.true
          (c.in_ok-total-2.ensures.form ∙ ap (λ (z : ℤ). sum_of c.loop-i.total (scaled z c.in_ok-form.form)) (to_z-of_z w64 line.multiplier wide))
          c.in_ok-form.ensures.form ∙ c.loop-i.invariant.rest;
    }
