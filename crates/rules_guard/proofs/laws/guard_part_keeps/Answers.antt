use Rattle.rules_guard.proofs.NestedLaws.{guard_part_keeps as law}
use Rattle.rules_guard.proofs.laws.guard_part_keeps.Goals as goal

pub returns : goal.returns
returns c = law
