use Rattle.rules_shape_gen.proofs.TruncLaws.{trunc_gen_r_keeps as law}
use Rattle.rules_shape_gen.proofs.laws.trunc_gen_r_keeps.Goals as goal

pub returns : goal.returns
returns c = law
