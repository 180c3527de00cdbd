use Rattle.fact_list.proofs.PlaceTrue.{declared-holds}
use Rattle.fact_list.proofs.laws.declared_facts_hold.Goals as goal

pub returns : goal.returns
returns c = declared-holds
