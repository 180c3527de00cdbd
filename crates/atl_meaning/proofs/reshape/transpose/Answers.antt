use Rattle.std.proofs.Common.{◌∙◌, ◌∷◌, ◌++◌, [], ap, get_or, map, sym}
use Rattle.term_tree.specs.Tensors.{from_rows, rows_of, zeros}
use Rattle.atl_meaning.specs.Values.{meant}
use Rattle.atl_meaning.proofs.ListLaws.{columns-last, map-last}
use Rattle.atl_meaning.proofs.reshape.transpose.Goals as goal

pub loop-j-preserved : goal.loop-j-preserved
loop-j-preserved c =
    let z = zeros c.args.extents.now in
    ap (map meant) c.in_ok-push.ensures.ok ∙ map-last meant c.loop-j.all c.in_ok-column.field-0
    ∙ (λ i. c.loop-j.invariant i ++ (c.in_ok-column.ensures ∙ ap (λ rows. from_rows (map (λ row. get_or (rows_of row) c.loop-j.j z) rows)) c.rows_of.ensures) i
    ∷ [])
    ∙ sym (columns-last c.loop-j.j z (rows_of (meant c.args.tensor.now)))
