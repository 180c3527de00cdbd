use Rattle.reindexer.proofs.Composed.{composed_frames}
use Rattle.reindexer.proofs.laws.composed_frames_are_good.Goals as goal

pub returns : goal.returns
returns c = composed_frames
