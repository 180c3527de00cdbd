use Rattle.std.proofs.Common.{drop}
use Rattle.final_rules.specs.Accepted.{FormsNormal}
use Rattle.final_verdict.proofs.verdict.told_outputs.Given as goal

abbrev pub invariant-loop-output : goal.invariant-loop-output
invariant-loop-output l = FormsNormal (drop l.output-index l.outputs) → FormsNormal l.outputs
