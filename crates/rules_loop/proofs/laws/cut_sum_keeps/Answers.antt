use Rattle.rules_loop.proofs.CutLaws.{cut_sum_keeps as law}
use Rattle.rules_loop.proofs.laws.cut_sum_keeps.Goals as goal

pub returns : goal.returns
returns c = law
