use Rattle.std.proofs.Common.{sym, ◌∙◌}
use Rattle.term_tree.specs.Syntax.{sum}
use Rattle.rules_loop.proofs.one_turn.sum_pick.Goals as goal

pub named_turn-requires-clause-term : goal.named_turn-requires-clause-term
named_turn-requires-clause-term c = sym c.get.ensures ∙ c.in-Some.ensures ∙ (λ i. sum c.in-Some.n.now (c.in-Some-as_guard.ensures i))

pub body_there-requires-clause-term : goal.body_there-requires-clause-term
body_there-requires-clause-term c = sym c.get.ensures ∙ c.in-Some.ensures ∙ (λ i. sum c.in-Some.n.now (c.in-Some-as_guard.ensures i))
