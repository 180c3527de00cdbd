use Rattle.binders.proofs.CountingLaws.{hollow-told}
use Rattle.binders.proofs.hollow.HollowVarMap.tensor.Goals as goal

pub returns-in-Ok : goal.returns-in-Ok
returns-in-Ok g c = (hollow-told c.in-Ok.term _ c.in-Ok.ensures.0 c.told.ensures, c.in-Ok.ensures.1)
