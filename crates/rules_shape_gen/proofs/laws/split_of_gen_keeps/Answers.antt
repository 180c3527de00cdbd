use Rattle.rules_shape_gen.proofs.TileLaws.{split_of_gen_keeps as law}
use Rattle.rules_shape_gen.proofs.laws.split_of_gen_keeps.Goals as goal

pub returns : goal.returns
returns c = law
