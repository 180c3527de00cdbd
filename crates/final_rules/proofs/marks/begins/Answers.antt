use Rattle.std.proofs.Common.{◌∙◌, sym, arith, drop, length-drop}
use Rattle.final_rules.proofs.MarkSteps.{begins-none}
use Rattle.final_rules.proofs.marks.begins.Goals as goal

pub returns-then-i-steps : goal.returns-then-i-steps
returns-then-i-steps c =
    let i = c.loop-i.i in
    sym (begins-none (drop i c.args.first.now) (drop i c.args.steps.now) (omega (arith, length-drop i c.args.first.now, c.loop-i-test.true)) (omega (
      arith,
      length-drop i c.args.steps.now,
      c.if-i-steps.true,
    ))) ∙ c.loop-i.invariant.rest
