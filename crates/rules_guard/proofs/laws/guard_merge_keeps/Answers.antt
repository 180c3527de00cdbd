use Rattle.rules_guard.proofs.NestedLaws.{guard_merge_keeps as law}
use Rattle.rules_guard.proofs.laws.guard_merge_keeps.Goals as goal

pub returns : goal.returns
returns c = law
