use Rattle.std.proofs.Common.{◌∙◌, subst}
use Rattle.c_text.specs.Statement.{HasSmallNumbers}
use Rattle.printable_loops.proofs.Whole.{texts_are_alone}
use Rattle.atl_driver.proofs.CompileLaws.{are_loops}
use Rattle.atl_driver.proofs.last_text.text_of.Goals as goal

pub returns-in-Ok : goal.returns-in-Ok
returns-in-Ok c =
    let m = c.args.last.now.0 in
    let finals = c.args.last.now.1 in
    let marks = c.args.last.now.2 in
    let small = subst HasSmallNumbers (c.get.ensures ∙ c.in-Ok.ensures.loops) c.has_small_numbers.ensures in
    let alone = texts_are_alone m finals marks
    (record { lowerable = c.told.ensures; literals = c.lower.ensures.literals; depths = c.requires.depths; numbers = small }) in
    are_loops m finals marks c.in-Ok.program c.get-in-Ok.result.now c.printed-text.result c.in-Ok.ensures.loops c.get-in-Ok.ensures c.in-Ok.ensures.formed
    c.in-Ok.ensures.lengths c.in-Ok.ensures.correct alone c.in-Ok.ensures.nests c.told.ensures.accepted c.printed-text.ensures
