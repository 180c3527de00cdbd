use Rattle.rules_guard.proofs.AccessLaws.{access_guard_keeps as law}
use Rattle.rules_guard.proofs.laws.access_guard_keeps.Goals as goal

pub returns : goal.returns
returns c = law
