use Rattle.rules_loop.proofs.IndexLaws.{add_index_keeps as law}
use Rattle.rules_loop.proofs.laws.add_index_keeps.Goals as goal

pub returns : goal.returns
returns c = law
