use Rattle.rules_shape_gen.proofs.PadLaws.{pad_gen_r_keeps as law}
use Rattle.rules_shape_gen.proofs.laws.pad_gen_r_keeps.Goals as goal

pub returns : goal.returns
returns c = law
