use Rattle.std.proofs.Common.{◌∙◌, ap, drop, map}
use Rattle.term_tree.specs.Tensors.{from_rows}
use Rattle.atl_meaning.specs.Values.{meant}
use Rattle.atl_meaning.proofs.ListLaws.{map-drop}
use Rattle.atl_meaning.proofs.ValueLaws.{meant-Row}
use Rattle.atl_meaning.proofs.reshape.without_first.Goals as goal

pub returns : goal.returns
returns c =
    meant-Row c.in_ok-copied.field-0
    ∙ ap from_rows (ap (map meant) (c.in_ok-copied.ensures ∙ c.after-rows.ensures) ∙ map-drop meant c.args.count c.rows_of.result.now
    ∙ ap (drop c.args.count) c.rows_of.ensures)
