use Rattle.rules_loop.proofs.IndexLaws.{sum_index_keeps as law}
use Rattle.rules_loop.proofs.laws.sum_index_keeps.Goals as goal

pub returns : goal.returns
returns c = law
