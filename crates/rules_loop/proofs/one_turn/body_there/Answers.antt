use Rattle.rules_loop.proofs.TurnReach.{pick_reach}
use Rattle.rules_loop.proofs.one_turn.body_there.Goals as goal

pub with_index-requires-clause-deep : goal.with_index-requires-clause-deep
with_index-requires-clause-deep c =
    (pick_reach c.args.focus.now c.requires.proper c.args.n.now c.args.c.now c.args.b.now c.requires.term c.args.g.now c.requires.equal c.args.x
    c.requires.solved).0

pub with_index-requires-clause-within : goal.with_index-requires-clause-within
with_index-requires-clause-within c =
    (pick_reach c.args.focus.now c.requires.proper c.args.n.now c.args.c.now c.args.b.now c.requires.term c.args.g.now c.requires.equal c.args.x
    c.requires.solved).1
