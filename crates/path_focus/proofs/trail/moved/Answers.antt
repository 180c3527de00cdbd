use Rattle.path_focus.proofs.TrailLaws.{moved_refusal, never}
use Rattle.path_focus.proofs.trail.moved.Goals as goal

pub out_of_memory-requires : goal.out_of_memory-requires
out_of_memory-requires c = moved_refusal c.args.by.index c.args.by.tensor c.args.a.now c.in-Err.refusal c.told.ensures c.requires.small
    (c.in-Err.ensures.limits never)
