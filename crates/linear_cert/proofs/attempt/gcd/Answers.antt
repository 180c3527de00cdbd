use Rattle.std.proofs.Common.{◌≡◌, arith}
use Rattle.std.proofs.lemmas.Nat.Gcd.{IsGcd-from_zero}
use Rattle.linear_cert.proofs.AttemptLaws.{gcd-next}
use Rattle.linear_cert.proofs.attempt.gcd.Goals as goal

pub loop-b-preserved : goal.loop-b-preserved
loop-b-preserved c = gcd-next c.loop-b.a c.loop-b.b c.args.a c.args.b c.loop-b.invariant

pub returns : goal.returns
returns c = let none : c.loop-b.b ≡ 0 = omega (arith, c.loop-b-test.false) in c.loop-b.invariant c.loop-b.a (IsGcd-from_zero c.loop-b.a c.loop-b.b none)
