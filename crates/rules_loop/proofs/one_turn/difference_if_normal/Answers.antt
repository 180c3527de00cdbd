use Rattle.affine_index.specs.Sum.{difference_of}
use Rattle.rules_loop.proofs.one_turn.difference_if_normal.Goals as goal

pub returns : goal.returns
returns c = c.if_normal.ensures (difference_of c.args.a.now c.args.b.now) c.sub.ensures.form
