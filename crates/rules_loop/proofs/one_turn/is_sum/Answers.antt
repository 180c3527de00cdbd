use Rattle.affine_index.specs.Sum.{sum_of}
use Rattle.rules_loop.proofs.one_turn.is_sum.Goals as goal

pub returns : goal.returns
returns c = c.is_form.ensures (sum_of c.args.a.now c.args.b.now) (c.in_ok-made.ensures {u = tt})
