use Rattle.index_trees.proofs.TreeExact.{printed-reckons, trees-exact}
use Rattle.index_trees.proofs.laws.trees_are_exact.Goals as goal

pub returns-clause-printed : goal.returns-clause-printed
returns-clause-printed c = printed-reckons

pub returns-clause-small : goal.returns-clause-small
returns-clause-small c = trees-exact
