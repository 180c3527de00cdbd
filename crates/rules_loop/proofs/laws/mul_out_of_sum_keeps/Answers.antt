use Rattle.rules_loop.proofs.ProductLaws.{mul_out_of_sum_keeps as law}
use Rattle.rules_loop.proofs.laws.mul_out_of_sum_keeps.Goals as goal

pub returns : goal.returns
returns c = law
