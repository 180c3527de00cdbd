use Rattle.rules_guard.proofs.ShownLaws.{guard_elim_keeps as law}
use Rattle.rules_guard.proofs.laws.guard_elim_keeps.Goals as goal

pub returns : goal.returns
returns c = law
