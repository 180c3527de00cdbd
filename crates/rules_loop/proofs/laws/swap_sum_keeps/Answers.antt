use Rattle.rules_loop.proofs.SwapLaws.{swap_sum_keeps as law}
use Rattle.rules_loop.proofs.laws.swap_sum_keeps.Goals as goal

pub returns : goal.returns
returns c = law
