use Rattle.rules_loop.proofs.TilingLaws.{fuse_gen_keeps as law}
use Rattle.rules_loop.proofs.laws.fuse_gen_keeps.Goals as goal

pub returns : goal.returns
returns c = law
