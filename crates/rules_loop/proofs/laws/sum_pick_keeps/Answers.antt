use Rattle.rules_loop.proofs.PickLaws.{sum_pick_keeps as law}
use Rattle.rules_loop.proofs.laws.sum_pick_keeps.Goals as goal

pub returns : goal.returns
returns c = law
