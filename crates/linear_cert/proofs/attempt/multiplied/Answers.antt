use Rattle.linear_cert.proofs.AttemptLaws.{scaled-once}
use Rattle.linear_cert.proofs.attempt.multiplied.Goals as goal

pub returns-then-by-eq1 : goal.returns-then-by-eq1
returns-then-by-eq1 c = scaled-once c.args.by c.args.form c.if-by-eq1.true
