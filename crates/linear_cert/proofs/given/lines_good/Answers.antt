use Rattle.std.proofs.Common.{◌∙◌}
use Rattle.linear_cert.proofs.LineLaws.{bad-line}
use Rattle.linear_cert.proofs.given.lines_good.Goals as goal

pub returns-then-not-line_good : goal.returns-then-not-line_good
returns-then-not-line_good c = λ g. bad-line c.args.facts.now g c.args.lines.now c.loop-i.i _ c.loop-i-test.true (c.if-not-line_good.ensures g)
    ∙ c.loop-i.invariant g
