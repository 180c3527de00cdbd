use Rattle.rules_narrow.proofs.QuotientLaws.{div_zero_keeps as law}
use Rattle.rules_narrow.proofs.laws.div_zero_keeps.Goals as goal

pub returns : goal.returns
returns c = law
