use Rattle.rules_loop.proofs.SumLaws.{add_sum_keeps as law}
use Rattle.rules_loop.proofs.laws.add_sum_keeps.Goals as goal

pub returns : goal.returns
returns c = law
