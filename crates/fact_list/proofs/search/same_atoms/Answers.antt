use Rattle.fact_list.proofs.AtomLaws.{same-test}
use Rattle.fact_list.proofs.search.same_atoms.Goals as goal

pub returns : goal.returns
returns c = same-test c.same_atom.result c.args.a.now c.args.b.now c.same_atom.ensures
