use Rattle.rules_loop.proofs.OneLaws.{sum_one_keeps as law}
use Rattle.rules_loop.proofs.laws.sum_one_keeps.Goals as goal

pub returns : goal.returns
returns c = law
