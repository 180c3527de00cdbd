use Rattle.std.proofs.Common.{subst, ◌∙◌}
use Rattle.path_focus.specs.Outcome.{IsDraft}
use Rattle.term_tree.specs.Syntax.{gen}
use Rattle.term_tree.specs.declared.term.Term.{Term}
use Rattle.rules_shape_tensor.specs.Formed.{IsJoined}
use Rattle.rules_shape_tensor.specs.declared.formed.Pair.{Pair}
use Rattle.rules_shape_tensor.proofs.FormedLaws.{gen_node}
use Rattle.rules_shape_tensor.proofs.formed.gen_with.Goals as goal

pub returns-in_ok-term-in-Both : goal.returns-in_ok-term-in-Both
returns-in_ok-term-in-Both c = λ e h.
    let j = subst (λ (r : Pair). IsJoined c.args.n e r) c.in-Both.is (c.beside.ensures e h) in
    subst (λ (t : Term). IsDraft t c.whole.result) (c.in_ok-term-in-Both.ensures {u = tt} ∙ (λ i. gen (j.0 i) (j.1 i))) c.whole.ensures

pub returns-in-Neither : goal.returns-in-Neither
returns-in-Neither c = λ e h.
    subst (λ (r : Pair). IsJoined c.args.n e r) c.in-Neither.is (c.beside.ensures e h) (gen c.args.n e) (gen_node c.args.n e)
