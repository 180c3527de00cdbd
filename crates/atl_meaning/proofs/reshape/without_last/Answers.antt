use Rattle.std.proofs.Common.{◌∙◌, ap, map}
use Rattle.term_tree.specs.Tensors.{drop_last, from_rows}
use Rattle.atl_meaning.specs.Values.{meant}
use Rattle.atl_meaning.proofs.ListLaws.{map-drop_last}
use Rattle.atl_meaning.proofs.ValueLaws.{meant-Row}
use Rattle.atl_meaning.proofs.reshape.without_last.Goals as goal

pub returns : goal.returns
returns c =
    meant-Row c.in_ok-copied.field-0
    ∙ ap from_rows (ap (map meant) (c.in_ok-copied.ensures ∙ c.before_last-rows.ensures) ∙ map-drop_last meant c.args.count c.rows_of.result.now
    ∙ ap (drop_last c.args.count) c.rows_of.ensures)
