use Rattle.std.proofs.Common.{subst, ◌∙◌}
use Rattle.path_focus.specs.Outcome.{IsDraft}
use Rattle.rule_parts.specs.Conds.{at_least}
use Rattle.term_tree.specs.Syntax.{guard}
use Rattle.term_tree.specs.declared.term.Term.{Term}
use Rattle.rules_shape_gen.specs.Formed.{IsJoined}
use Rattle.rules_shape_gen.specs.declared.formed.Pair.{Pair}
use Rattle.rules_shape_gen.proofs.FormedLaws.{guard_node}
use Rattle.rules_shape_gen.proofs.formed.guard_with.Goals as goal

pub returns-in_ok-term-in-Both : goal.returns-in_ok-term-in-Both
returns-in_ok-term-in-Both c = λ x e f h.
    let j = subst (λ (r : Pair). IsJoined x e r) c.in-Both.is (c.joined.ensures x e f h) in
    subst (λ (t : Term). IsDraft t c.whole.result) (c.in_ok-term-in-Both.ensures {u = tt} ∙ (λ i. guard (at_least (j.0 i)) (j.1 i))) c.whole.ensures

pub returns-in-Neither : goal.returns-in-Neither
returns-in-Neither c = λ x e f h.
    subst (λ (r : Pair). IsJoined x e r) c.in-Neither.is (c.joined.ensures x e f h) (guard (at_least x) e) (guard_node x e)
