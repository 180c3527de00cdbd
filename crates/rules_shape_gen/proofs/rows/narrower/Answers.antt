use Rattle.affine_index.specs.Sum.{difference_of}
use Rattle.rules_shape_gen.proofs.rows.narrower.Goals as goal

pub returns : goal.returns
returns c = c.formed.ensures (difference_of c.args.n.now c.args.a.now) c.sub.ensures.form
