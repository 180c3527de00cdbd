use Rattle.std.proofs.Common.{subst}
use Rattle.reindexer.specs.Limited.{Answers}
use Rattle.final_rules.specs.Printing.{sited}
use Rattle.index_limits.proofs.stores.read_index.Goals as goal

pub returns : goal.returns
returns c =
    let d = c.args.read.now in
    c.measured.ensures (sited c.args.scene.now d.var d.indices)
    (subst (λ xs. Answers (sited c.args.scene.now d.var xs) c.sited-place.result) c.as_slice.ensures c.sited-place.ensures)
