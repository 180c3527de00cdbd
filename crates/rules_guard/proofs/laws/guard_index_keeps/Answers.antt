use Rattle.rules_guard.proofs.InwardLaws.{guard_index_keeps as law}
use Rattle.rules_guard.proofs.laws.guard_index_keeps.Goals as goal

pub returns : goal.returns
returns c = law
