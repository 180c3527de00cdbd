use Rattle.rules_guard.proofs.WordLaws.{guard_add_keeps as law}
use Rattle.rules_guard.proofs.laws.guard_add_keeps.Goals as goal

pub returns : goal.returns
returns c = law
