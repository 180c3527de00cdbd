use Rattle.shape_rules.specs.Faults.{AllBefore}
use Rattle.printable_versions.specs.Versions.{IsTold}
use Rattle.printable_versions.proofs.told.outputs_told.Given as goal

abbrev pub invariant-loop-output : goal.invariant-loop-output
invariant-loop-output l = AllBefore IsTold l.output-index l.outputs
