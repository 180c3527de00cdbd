use Rattle.rules_loop.proofs.SumLaws.{sum_add_keeps as law}
use Rattle.rules_loop.proofs.laws.sum_add_keeps.Goals as goal

pub returns : goal.returns
returns c = law
