use Rattle.std.proofs.Common.{refl, sym, subst, ◌∙◌}
use Rattle.path_focus.specs.Outcome.{IsDraft}
use Rattle.path_focus.specs.declared.outcome.Draft.{Draft}
use Rattle.term_tree.specs.Syntax.{let_in}
use Rattle.term_tree.specs.declared.term.Term.{Term}
use Rattle.rules_let.proofs.DraftLaws.{definition_large, definition_long, definition_many}
use Rattle.rules_let.proofs.drafts.let_around.Goals as goal

pub returns-in_ok-term-in-Whole : goal.returns-in_ok-term-in-Whole
returns-in_ok-term-in-Whole c = λ raw h.
    let e = (subst (λ (d : Draft). IsDraft raw d) c.in-Whole.is h).0 in
    subst (λ (t : Term). IsDraft t c.whole.result) (c.in_ok-term-in-Whole.ensures {u = tt} ∙ (λ i.
    let_in (e i) (c.in_ok-body-in-Whole.ensures {u = tt} i))) c.whole.ensures

pub returns-in-TooLarge : goal.returns-in-TooLarge
returns-in-TooLarge c = λ raw h. definition_large c.args.body.now c.told.ensures raw (subst (λ (d : Draft). IsDraft raw d) c.in-TooLarge.is h)

pub returns-in-TooLong : goal.returns-in-TooLong
returns-in-TooLong c = λ raw h. definition_long c.args.body.now c.told.ensures raw (subst (λ (d : Draft). IsDraft raw d) c.in-TooLong.is h)

pub returns-in-TooMany : goal.returns-in-TooMany
returns-in-TooMany c = λ raw h.
    subst (λ (d : Draft). IsDraft (let_in raw c.args.body.now) d) (sym c.both_many.ensures)
    (definition_many c.args.body.now c.told.ensures raw c.in-TooMany.nodes _ refl (subst (λ (d : Draft). IsDraft raw d) c.in-TooMany.is h))
