use Rattle.rules_shape_gen.proofs.ConcatLaws.{concat_gen_keeps as law}
use Rattle.rules_shape_gen.proofs.laws.concat_gen_keeps.Goals as goal

pub returns : goal.returns
returns c = law
