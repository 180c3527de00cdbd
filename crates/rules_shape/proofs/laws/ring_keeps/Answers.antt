use Rattle.rules_shape.proofs.RingLaws.{ring_keeps as law}
use Rattle.rules_shape.proofs.laws.ring_keeps.Goals as goal

pub returns : goal.returns
returns c = law
