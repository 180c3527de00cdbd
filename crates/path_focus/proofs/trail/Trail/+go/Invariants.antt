use Rattle.std.proofs.Common.{length}
use Rattle.path_focus.proofs.trail.Trail.+go.Given as goal

abbrev pub decreases-go : goal.decreases-go
decreases-go l = length l.steps.now
