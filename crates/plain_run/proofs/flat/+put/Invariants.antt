use Rattle.std.proofs.Common.{◌≡◌, ◌++◌, drop, map}
use Rattle.term_tree.specs.Shaped.{flat}
use Rattle.term_tree.specs.Tensors.{from_rows}
use Rattle.atl_meaning.specs.Values.{meant}
use Rattle.plain_run.proofs.flat.+put.Given as goal

abbrev pub invariant-put_rows-loop-row : goal.invariant-put_rows-loop-row
invariant-put_rows-loop-row l =
    l.words ++ flat (from_rows (map meant (drop l.row-index l.rows))) ≡ l.initial.words ++ flat (from_rows (map meant l.rows))
