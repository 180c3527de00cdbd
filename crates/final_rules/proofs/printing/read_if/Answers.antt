use Rattle.std.proofs.Common.{subst, sym}
use Rattle.std.specs.Prelude.{Option}
use Rattle.reindexer.specs.Limited.{Answers}
use Rattle.final_rules.specs.Printing.{Counts, read_sized, sited}
use Rattle.final_rules.specs.declared.read.Read.{Read}
use Rattle.final_rules.proofs.printing.read_if.Goals as goal

pub returns-in-Some : goal.returns-in-Some
returns-in-Some c =
    let d = c.in-Some.read in
    let due = subst (λ xs. Answers (sited c.args.scene.now d.var xs) c.sited-place.result) c.as_slice.ensures c.sited-place.ensures in
    subst (λ (o : Option Read). Counts (read_sized c.args.maxima.now c.args.vars.now c.args.scene.now o c.args.number) c.measured.result) (sym c.in-Some.is)
    (c.measured.ensures (sited c.args.scene.now d.var d.indices) due)
