use Rattle.rules_let.proofs.LiftingLaws.{let_out_of_gen_keeps as law}
use Rattle.rules_let.proofs.laws.let_out_of_gen_keeps.Goals as goal

pub returns : goal.returns
returns c = law
