use Rattle.std.proofs.Common.{◌≡◌, ◌++◌, [], List, OnOk, ◌∙◌, ap, subst, sym}
use Rattle.std.specs.Prelude.{Option}
use Rattle.loop_lang.specs.declared.stmt.Stmt.{Stmt}
use Rattle.term_tree.specs.Shape.{Extents}
use Rattle.shape_rules.specs.Scopes.{given}
use Rattle.final_rules.specs.declared.read.Read.{Read}
use Rattle.final_rules.specs.Places.{extents_under}
use Rattle.final_rules.specs.Reads.{reading}
use Rattle.final_rules.proofs.WordForms.{reading-is}
use Rattle.lowering.specs.Leaves.{full_read_if_in}
use Rattle.lowering.specs.Made.{FullReadMadeIf}
use Rattle.lowering.proofs.walk.read_stored.Goals as goal

pub full_read_if-requires-clause-made : goal.full_read_if-requires-clause-made
full_read_if-requires-clause-made c =
    let e = c.in_ok-read.ensures ∙ ap (reading c.args.term.now) c.new.ensures ∙ reading-is c.args.term.now [] in
    let n = c.as_slice.ensures ∙ c.in_ok-extents.ensures.extents in
    subst (λ (ns : Extents). FullReadMadeIf c.args.scene.now c.args.target.now c.args.node.now.spot ns c.in_ok-read.read) (sym n)
    (subst (λ (o : Option Read). FullReadMadeIf c.args.scene.now c.args.target.now c.args.node.now.spot
    (extents_under c.args.term.now (given c.args.scene.now.shapes)) o) (sym e) c.requires.made)

pub returns : goal.returns
returns c =
    let e = c.in_ok-read.ensures ∙ ap (reading c.args.term.now) c.new.ensures ∙ reading-is c.args.term.now [] in
    let n = c.as_slice.ensures ∙ c.in_ok-extents.ensures.extents in
    subst (λ (b : List Stmt). OnOk c.full_read_if.result (c.full_read_if.new.all ≡ c.args.all.now ++ b))
    (λ i. full_read_if_in c.args.scene.now c.args.target.now c.args.node.now.adds c.args.node.now.spot (n i) (e i)) c.full_read_if.ensures
