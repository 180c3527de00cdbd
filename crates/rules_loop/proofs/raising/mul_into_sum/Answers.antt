use Rattle.std.proofs.Common.{sym, ◌∙◌}
use Rattle.rules_loop.proofs.TurnReach.{factor_reach, factor_small}
use Rattle.rules_loop.proofs.raising.mul_into_sum.Goals as goal

pub raised-requires-clause-deep : goal.raised-requires-clause-deep
raised-requires-clause-deep c =
    (factor_reach c.args.focus.now c.requires c.in-Some.a.now c.in-Some.right.now (sym c.get.ensures ∙ c.in-Some.ensures)).0

pub raised-requires-clause-small : goal.raised-requires-clause-small
raised-requires-clause-small c = factor_small c.args.focus.now c.requires c.in-Some.a.now c.in-Some.right.now (sym c.get.ensures ∙ c.in-Some.ensures)

pub raised-requires-clause-within : goal.raised-requires-clause-within
raised-requires-clause-within c =
    (factor_reach c.args.focus.now c.requires c.in-Some.a.now c.in-Some.right.now (sym c.get.ensures ∙ c.in-Some.ensures)).1
