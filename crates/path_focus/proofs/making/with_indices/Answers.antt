use Rattle.binders.specs.Maps.{mapped}
use Rattle.binders.specs.PlainMaps.{put_index_map}
use Rattle.path_focus.proofs.TrailLaws.{never}
use Rattle.path_focus.proofs.making.with_indices.Goals as goal

pub returns : goal.returns
returns c = c.drafted.ensures (mapped (put_index_map c.args.by c.args.under) 0 0 c.args.body.now) (c.map_term-mapped.ensures.limits never)
