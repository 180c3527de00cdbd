use Rattle.std.proofs.Common.{subst, sym, arith}
use Rattle.stages_text.specs.Stages.{AreBlocks}
use Rattle.stages_text.proofs.StageLaws.{all_written, blocks}
use Rattle.stages_text.proofs.stages.print_stages.Goals as goal

pub returns-clause-reads_back : goal.returns-clause-reads_back
returns-clause-reads_back c =
    let ms = c.args.versions.now in
    let whole = all_written ms c.loop-version.version c.loop-version.text.items (omega (arith, c.loop-version-test.false)) c.loop-version.invariant in
    subst (AreBlocks 0 ms) (sym whole) (blocks ms c.requires)
