use Rattle.term_equality.proofs.EqualityLaws.{conditions_law as law}
use Rattle.term_equality.proofs.laws.same_conditions_are_equal.Goals as goal

pub returns : goal.returns
returns c = law
