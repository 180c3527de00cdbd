use Rattle.reindexer.proofs.PlaceLaws.{answer_of, answer_value}
use Rattle.reindexer.proofs.places.place.Goals as goal

pub returns-clause-value : goal.returns-clause-value
returns-clause-value c =
    answer_value c.args.frames.now c.args.extents.now c.row_place.result c.requires.frames c.requires.extents
    (answer_of c.args.frames.now c.args.extents.now c.in_ok-indices.indices c.as_slice.result.now c.row_place.result (c.in_ok-indices.ensures {u = tt})
    c.as_slice.ensures c.row_place.ensures)
