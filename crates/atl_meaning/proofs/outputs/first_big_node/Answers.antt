use Rattle.std.proofs.Common.{List, arith, subst, sym}
use Rattle.std.specs.Prelude.{IsOk}
use Rattle.term_tree.specs.Shape.{Extents, shape_of}
use Rattle.term_tree.specs.declared.term.OutputDecl.{OutputDecl}
use Rattle.atl_meaning.proofs.outputs.first_big_node.Goals as goal

pub survey-requires-clause-shaped : goal.survey-requires-clause-shaped
survey-requires-clause-shaped c =
    let o = c.output-item.result in
    subst (λ (ts : List Extents). IsOk (shape_of o.term ts)) (sym c.loop-output.invariant.shapes)
    (subst (λ (o : OutputDecl). IsOk (shape_of o.term c.args.shapes.now)) (sym c.output-item.is) (c.requires.shaped c.loop-output.output-index o (omega arith)))
