use Rattle.rules_narrow.proofs.NarrowLaws.{sum_narrow_keeps as law}
use Rattle.rules_narrow.proofs.laws.sum_narrow_keeps.Goals as goal

pub returns : goal.returns
returns c = law
