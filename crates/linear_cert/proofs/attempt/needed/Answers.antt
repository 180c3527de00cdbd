use Rattle.std.proofs.Common.{arith}
use Rattle.linear_cert.proofs.AttemptLaws.{divisor-positive}
use Rattle.linear_cert.proofs.attempt.needed.Goals as goal

pub nonzero_div-result : goal.nonzero_div-result
nonzero_div-result c = divisor-positive c.args.size c.from-divisor.result c.gcd.result (omega (arith, c.requires, c.from-divisor.ensures)) c.gcd.ensures
