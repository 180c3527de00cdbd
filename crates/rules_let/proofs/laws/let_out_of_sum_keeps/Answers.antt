use Rattle.rules_let.proofs.LiftingLaws.{let_out_of_sum_keeps as law}
use Rattle.rules_let.proofs.laws.let_out_of_sum_keeps.Goals as goal

pub returns : goal.returns
returns c = law
