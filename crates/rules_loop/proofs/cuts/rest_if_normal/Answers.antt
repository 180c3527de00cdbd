use Rattle.affine_index.specs.Sum.{difference_of}
use Rattle.rules_loop.proofs.cuts.rest_if_normal.Goals as goal

pub returns : goal.returns
returns c = c.if_normal.ensures (difference_of c.args.n.now c.args.x.now) c.sub.ensures.form
