use Rattle.std.proofs.Common.{subst}
use Rattle.std.specs.Prelude.{All}
use Rattle.shape_rules.proofs.ModuleLaws.{before_more}
use Rattle.printable_versions.specs.Versions.{IsTold, IsToldModule}
use Rattle.printable_versions.proofs.told.versions_told.Goals as goal

pub loop-version-preserved : goal.loop-version-preserved
loop-version-preserved c =
    before_more IsToldModule c.args.versions.now c.loop-version.version-index c.version-item.result c.loop-version-test.true c.version-item.is
    (subst (All IsTold) c.as_slice.ensures c.outputs_told.ensures) c.loop-version.invariant
