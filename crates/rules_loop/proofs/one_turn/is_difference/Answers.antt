use Rattle.affine_index.specs.Sum.{difference_of}
use Rattle.rules_loop.proofs.one_turn.is_difference.Goals as goal

pub returns : goal.returns
returns c = c.is_form.ensures (difference_of c.args.a.now c.args.b.now) (c.in_ok-made.ensures {u = tt})
