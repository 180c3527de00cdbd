use Rattle.fact_list.proofs.FactsTrue.{listed-true}
use Rattle.fact_list.proofs.laws.listed_facts_hold.Goals as goal

pub returns : goal.returns
returns c = listed-true
