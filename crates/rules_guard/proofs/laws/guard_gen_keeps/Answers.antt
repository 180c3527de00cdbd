use Rattle.rules_guard.proofs.InwardLaws.{guard_gen_keeps as law}
use Rattle.rules_guard.proofs.laws.guard_gen_keeps.Goals as goal

pub returns : goal.returns
returns c = law
