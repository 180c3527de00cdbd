use Rattle.rules_loop.proofs.IntoLaws.{mul_into_sum_keeps as law}
use Rattle.rules_loop.proofs.laws.mul_into_sum_keeps.Goals as goal

pub returns : goal.returns
returns c = law
