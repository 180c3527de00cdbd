use Rattle.fact_list.proofs.ScopedLaws.{scoped-fits}
use Rattle.fact_list.proofs.laws.scoped_facts_move.Goals as goal

pub returns : goal.returns
returns c = scoped-fits
