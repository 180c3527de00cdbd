use Rattle.std.proofs.Common.{◌∙◌, ◌++◌, ap, arith, map, sym, take_all}
use Rattle.std.proofs.lemmas.List.{map-append}
use Rattle.term_tree.specs.Tensors.{from_rows, joined}
use Rattle.atl_meaning.specs.Values.{meant}
use Rattle.atl_meaning.proofs.ListLaws.{joined-next}
use Rattle.atl_meaning.proofs.ValueLaws.{meant-Row}
use Rattle.atl_meaning.proofs.reshape.flatten.Goals as goal

pub loop-row-preserved : goal.loop-row-preserved
loop-row-preserved c =
    ap (map meant) c.in_ok-append.ensures ∙ map-append meant c.loop-row.rows c.in_ok-copied.field-0
    ∙ (λ i. c.loop-row.invariant i ++ (ap (map meant) c.in_ok-copied.ensures ∙ c.rows_of.ensures) i)
    ∙ sym (joined-next meant c.rows_of-row-items.result.now c.loop-row.row-index c.row-item.result (omega arith) c.row-item.is)

pub returns : goal.returns
returns c =
    meant-Row c.loop-row.rows
    ∙ ap from_rows (c.loop-row.invariant ∙ ap (λ xs. joined (map meant xs)) (take_all c.loop-row.row-index c.rows_of-row-items.result.now (omega arith))
    ∙ ap joined c.rows_of-row-items.ensures)
