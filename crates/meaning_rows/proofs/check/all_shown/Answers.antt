use Rattle.std.proofs.Common.{arith, rules}
use Rattle.meaning_rows.proofs.GivenLaws.{shown-next}
use Rattle.meaning_rows.proofs.check.all_shown.Goals as goal

pub loop-goal-preserved : goal.loop-goal-preserved
loop-goal-preserved c h = c.loop-goal.invariant
    (shown-next c.args.facts.now c.args.goals.now c.loop-goal.goal-index c.goal-item.result (omega arith) c.goal-item.is (search rules) h)
