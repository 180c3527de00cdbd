use Rattle.std.proofs.Common.{◌≡◌, drop}
use Rattle.final_rules.specs.Rules.{any_let}
use Rattle.lowering.proofs.outputs.any_let.Given as goal

abbrev pub invariant-loop-output : goal.invariant-loop-output
invariant-loop-output l = any_let (drop l.output-index l.outputs) ≡ any_let l.outputs
