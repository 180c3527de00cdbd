use Rattle.std.proofs.Common.{[], List, ◌∙◌, ap, subst, sym}
use Rattle.std.specs.Prelude.{Option}
use Rattle.shape_rules.specs.Scopes.{given}
use Rattle.final_rules.specs.Places.{extents_under}
use Rattle.final_rules.specs.Printed.{Printed, full_read_printed_if}
use Rattle.final_rules.specs.Printing.{Counts, sized}
use Rattle.final_rules.specs.Reads.{reading}
use Rattle.final_rules.specs.declared.read.Read.{Read}
use Rattle.final_rules.proofs.WordForms.{reading-is}
use Rattle.region_plan.specs.Length.{zero_form}
use Rattle.term_tree.specs.Shape.{Extents}
use Rattle.index_limits.specs.Places.{place_at}
use Rattle.index_limits.specs.Ready.{FullReadyIf}
use Rattle.index_limits.proofs.stores.read_indices.Goals as goal

pub full_read_if-requires-clause-ready : goal.full_read_if-requires-clause-ready
full_read_if-requires-clause-ready c =
    let e = c.in_ok-read.ensures ∙ ap (reading c.args.term.now) c.new.ensures ∙ reading-is c.args.term.now [] in
    let n = c.as_slice.ensures ∙ c.in_ok-extents.ensures.extents in
    subst (λ (us : Extents). FullReadyIf c.args.maxima.now c.args.vars.now c.args.scene.now c.args.target.now us c.in_ok-read.read c.args.spot.now) (sym n)
    (subst (λ (o : Option Read). FullReadyIf c.args.maxima.now c.args.vars.now c.args.scene.now c.args.target.now
    (extents_under c.args.term.now (given c.args.scene.now.shapes)) o c.args.spot.now) (sym e) c.requires.ready)

pub returns : goal.returns
returns c =
    let e = c.in_ok-read.ensures ∙ ap (reading c.args.term.now) c.new.ensures ∙ reading-is c.args.term.now [] in
    let n = c.as_slice.ensures ∙ c.in_ok-extents.ensures.extents in
    subst (λ (ps : List Printed). Counts (sized c.args.maxima.now ps c.args.number) c.full_read_if.result)
    (λ i. full_read_printed_if (n i) (e i) (place_at c.args.scene.now c.args.target.now zero_form c.args.spot.now)) c.full_read_if.ensures
