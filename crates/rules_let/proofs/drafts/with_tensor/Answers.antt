use Rattle.binders.specs.Maps.{mapped}
use Rattle.binders.specs.PlainMaps.{put_tensor_map}
use Rattle.path_focus.proofs.TrailLaws.{never}
use Rattle.rules_let.proofs.drafts.with_tensor.Goals as goal

pub returns : goal.returns
returns c = c.drafted.ensures (mapped (put_tensor_map c.args.by c.args.under) 0 0 c.args.body.now) (c.map_term-mapped.ensures.limits never)
