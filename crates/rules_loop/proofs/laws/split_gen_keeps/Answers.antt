use Rattle.rules_loop.proofs.TilingLaws.{split_gen_keeps as law}
use Rattle.rules_loop.proofs.laws.split_gen_keeps.Goals as goal

pub returns : goal.returns
returns c = law
