use Rattle.std.proofs.Common.{◌∙◌, sym, Some, None}
use Rattle.linear_cert.proofs.ProcedureLaws.{attempts-next}
use Rattle.linear_cert.proofs.procedure.default_lines_of.Goals as goal

pub returns-in-Some-2 : goal.returns-in-Some-2
returns-in-Some-2 c =
    attempts-next c.args.facts.now c.args.goal.now c.loop-at.at c.index-facts-at.result (Some c.in-Some-2.lines) c.loop-at-test.true c.index-facts-at.is
    (sym c.in-Some-2.is ∙ c.in_ok-lines-2.ensures {u = tt}) ∙ c.loop-at.invariant

pub loop-at-preserved : goal.loop-at-preserved
loop-at-preserved c =
    attempts-next c.args.facts.now c.args.goal.now c.loop-at.at c.index-facts-at.result None c.loop-at-test.true c.index-facts-at.is
    (sym c.in-None.is ∙ c.in_ok-lines-2.ensures {u = tt}) ∙ c.loop-at.invariant
