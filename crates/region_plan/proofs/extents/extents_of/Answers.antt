use Rattle.region_plan.proofs.WalkLaws.{free_definition}
use Rattle.region_plan.proofs.extents.extents_of.Goals as goal

pub returns-in-Ok-clause-free : goal.returns-in-Ok-clause-free
returns-in-Ok-clause-free c = free_definition c.args.shapes.now c.args.term.now c.in-Ok.extents c.requires.shaped c.requires.free c.in-Ok.ensures.shape
