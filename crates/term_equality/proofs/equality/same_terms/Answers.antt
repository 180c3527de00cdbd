use Rattle.term_equality.proofs.EqualityLaws.{same_term-is}
use Rattle.term_equality.proofs.equality.same_terms.Goals as goal

pub returns : goal.returns
returns c = same_term-is c.same.result c.args.a.now c.args.b.now c.same.ensures
