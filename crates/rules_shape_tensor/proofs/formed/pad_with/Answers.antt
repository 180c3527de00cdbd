use Rattle.std.proofs.Common.{subst, ◌∙◌}
use Rattle.path_focus.specs.Outcome.{IsDraft}
use Rattle.term_tree.specs.Syntax.{pad_r}
use Rattle.term_tree.specs.declared.term.Term.{Term}
use Rattle.rules_shape_tensor.specs.Formed.{IsJoined}
use Rattle.rules_shape_tensor.specs.declared.formed.Pair.{Pair}
use Rattle.rules_shape_tensor.proofs.FormedLaws.{pad_node}
use Rattle.rules_shape_tensor.proofs.formed.pad_with.Goals as goal

pub returns-in_ok-term-in-Both : goal.returns-in_ok-term-in-Both
returns-in_ok-term-in-Both c = λ x e f h.
    let j = subst (λ (r : Pair). IsJoined x e r) c.in-Both.is (c.joined.ensures x e f h) in
    subst (λ (t : Term). IsDraft t c.whole.result) (c.in_ok-term-in-Both.ensures {u = tt} ∙ (λ i. pad_r (j.0 i) (j.1 i))) c.whole.ensures

pub returns-in-Neither : goal.returns-in-Neither
returns-in-Neither c = λ x e f h. subst (λ (r : Pair). IsJoined x e r) c.in-Neither.is (c.joined.ensures x e f h) (pad_r x e) (pad_node x e)
