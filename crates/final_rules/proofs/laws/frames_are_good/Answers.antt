use Rattle.final_rules.proofs.FramesGood.{sound-frames-good}
use Rattle.final_rules.proofs.laws.frames_are_good.Goals as goal

pub returns : goal.returns
returns c = sound-frames-good
