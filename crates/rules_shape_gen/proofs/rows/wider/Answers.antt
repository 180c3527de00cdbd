use Rattle.affine_index.specs.Sum.{sum_of}
use Rattle.rules_shape_gen.proofs.rows.wider.Goals as goal

pub returns : goal.returns
returns c = c.formed.ensures (sum_of c.args.n.now c.args.a.now) c.add.ensures.form
