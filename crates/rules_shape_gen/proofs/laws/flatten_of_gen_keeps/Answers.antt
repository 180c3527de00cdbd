use Rattle.rules_shape_gen.proofs.TileLaws.{flatten_of_gen_keeps as law}
use Rattle.rules_shape_gen.proofs.laws.flatten_of_gen_keeps.Goals as goal

pub returns : goal.returns
returns c = law
