use Rattle.std.proofs.Common.{◌∙◌}
use Rattle.linear_cert.proofs.ProcedureLaws.{none-next}
use Rattle.linear_cert.proofs.procedure.no_times.Goals as goal

pub loop-i-preserved : goal.loop-i-preserved
loop-i-preserved c = none-next c.args.facts.now c.loop-i._i c.loop-i.times c.push.new.self c.loop-i-test.true c.in_ok-push.ensures.ok ∙ c.loop-i.invariant
