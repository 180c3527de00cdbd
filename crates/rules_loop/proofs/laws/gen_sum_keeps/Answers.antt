use Rattle.rules_loop.proofs.SwapLaws.{gen_sum_keeps as law}
use Rattle.rules_loop.proofs.laws.gen_sum_keeps.Goals as goal

pub returns : goal.returns
returns c = law
