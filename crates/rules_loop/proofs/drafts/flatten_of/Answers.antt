use Rattle.std.proofs.Common.{refl, sym, subst, ◌∙◌}
use Rattle.path_focus.specs.Outcome.{IsDraft}
use Rattle.path_focus.specs.declared.outcome.Draft.{Draft}
use Rattle.term_tree.specs.Syntax.{flatten}
use Rattle.term_tree.specs.declared.term.Term.{Term}
use Rattle.rules_loop.proofs.DraftLaws.{flatten_large, flatten_long, flatten_many}
use Rattle.rules_loop.proofs.drafts.flatten_of.Goals as goal

pub returns-in_ok-term-in-Whole : goal.returns-in_ok-term-in-Whole
returns-in_ok-term-in-Whole c = λ raw h.
    let e = (subst (λ (d : Draft). IsDraft raw d) c.in-Whole.is h).0 in
    subst (λ (t : Term). IsDraft t c.whole.result) (c.in_ok-term-in-Whole.ensures {u = tt} ∙ (λ i. flatten (e i))) c.whole.ensures

pub returns-in-TooLarge : goal.returns-in-TooLarge
returns-in-TooLarge c = λ raw h. flatten_large raw (subst (λ (d : Draft). IsDraft raw d) c.in-TooLarge.is h)

pub returns-in-TooLong : goal.returns-in-TooLong
returns-in-TooLong c = λ raw h. flatten_long raw (subst (λ (d : Draft). IsDraft raw d) c.in-TooLong.is h)

pub returns-in-TooMany : goal.returns-in-TooMany
returns-in-TooMany c = λ raw h.
    subst (λ (d : Draft). IsDraft (flatten raw) d) (sym c.more.ensures)
    (flatten_many raw c.in-TooMany.nodes _ refl (subst (λ (d : Draft). IsDraft raw d) c.in-TooMany.is h))
