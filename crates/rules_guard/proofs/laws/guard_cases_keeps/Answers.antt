use Rattle.rules_guard.proofs.CaseLaws.{guard_cases_keeps as law}
use Rattle.rules_guard.proofs.laws.guard_cases_keeps.Goals as goal

pub returns : goal.returns
returns c = law
