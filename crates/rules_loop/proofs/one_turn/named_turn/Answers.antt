use Rattle.rules_loop.proofs.TurnReach.{left_fits}
use Rattle.rules_loop.proofs.one_turn.named_turn.Goals as goal

pub solved-requires : goal.solved-requires
solved-requires c =
    left_fits c.args.focus.now c.requires.proper c.args.n.now c.args.c.now c.args.b.now c.requires.term c.args.g.now c.requires.equal
