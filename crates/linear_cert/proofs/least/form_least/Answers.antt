use Rattle.std.proofs.Common.{ap, arith, length}
use Rattle.linear_cert.proofs.LeastLaws.{least-end}
use Rattle.linear_cert.proofs.least.form_least.Goals as goal

pub returns : goal.returns
returns c = least-end c.args.form.now c.loop-at.at c.loop-at.least (omega (arith, c.loop-at-test.false, c.len-at-end.ensures, ap length c.terms.ensures))
    c.loop-at.invariant
