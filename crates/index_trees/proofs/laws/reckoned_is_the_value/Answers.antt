use Rattle.index_trees.proofs.Reckoned.{reckoned-value}
use Rattle.index_trees.proofs.laws.reckoned_is_the_value.Goals as goal

pub returns : goal.returns
returns c = reckoned-value
