use Rattle.rules_guard.proofs.WordLaws.{guard_mul_keeps as law}
use Rattle.rules_guard.proofs.laws.guard_mul_keeps.Goals as goal

pub returns : goal.returns
returns c = law
