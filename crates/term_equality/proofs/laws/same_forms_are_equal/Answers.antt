use Rattle.term_equality.proofs.EqualityLaws.{forms_law as law}
use Rattle.term_equality.proofs.laws.same_forms_are_equal.Goals as goal

pub returns : goal.returns
returns c = law
