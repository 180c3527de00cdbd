use Rattle.rules_guard.proofs.OutwardLaws.{gen_guard_keeps as law}
use Rattle.rules_guard.proofs.laws.gen_guard_keeps.Goals as goal

pub returns : goal.returns
returns c = law
