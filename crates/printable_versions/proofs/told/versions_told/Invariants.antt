use Rattle.shape_rules.specs.Faults.{AllBefore}
use Rattle.printable_versions.specs.Versions.{IsToldModule}
use Rattle.printable_versions.proofs.told.versions_told.Given as goal

abbrev pub invariant-loop-version : goal.invariant-loop-version
invariant-loop-version l = AllBefore IsToldModule l.version-index l.versions
