use Rattle.rules_guard.proofs.ShownLaws.{guard_intro_keeps as law}
use Rattle.rules_guard.proofs.laws.guard_intro_keeps.Goals as goal

pub returns : goal.returns
returns c = law
