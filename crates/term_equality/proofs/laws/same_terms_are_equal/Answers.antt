use Rattle.term_equality.proofs.EqualityLaws.{terms_law as law}
use Rattle.term_equality.proofs.laws.same_terms_are_equal.Goals as goal

pub returns : goal.returns
returns c = law
