use Rattle.std.proofs.Common.{rules}
use Rattle.meaning_rows.proofs.GivenLaws.{row-given}
use Rattle.meaning_rows.proofs.given.+shape.Goals as goal

pub has_shape-returns-then-is_extent : goal.has_shape-returns-then-is_extent
has_shape-returns-then-is_extent t c h =
    row-given c.args.sizes.now c.args.extents.now c.in-Some.count.now c.in-Some.rest.now c.args.tensor.now c.in-Row.rows
    (search rules) (search rules) (search rules) (search (rules, h))
