use Rattle.std.proofs.Common.{refl, sym, subst, ◌∙◌}
use Rattle.path_focus.specs.Outcome.{IsDraft}
use Rattle.path_focus.specs.declared.outcome.Draft.{Draft}
use Rattle.term_tree.specs.Syntax.{let_in}
use Rattle.term_tree.specs.declared.term.Term.{Term}
use Rattle.rules_let.proofs.DraftLaws.{body_large, body_long, body_many}
use Rattle.rules_let.proofs.drafts.let_of.Goals as goal

pub returns-in_ok-term-in-Whole : goal.returns-in_ok-term-in-Whole
returns-in_ok-term-in-Whole c = λ raw h.
    let e = (subst (λ (d : Draft). IsDraft raw d) c.in-Whole.is h).0 in
    subst (λ (t : Term). IsDraft t c.whole.result) (c.in_ok-term-in-Whole.ensures {u = tt} ∙ (λ i.
    let_in c.args.definition.now (e i))) c.whole.ensures

pub returns-in-TooLarge : goal.returns-in-TooLarge
returns-in-TooLarge c = λ raw h. body_large c.args.definition.now c.told.ensures raw (subst (λ (d : Draft). IsDraft raw d) c.in-TooLarge.is h)

pub returns-in-TooLong : goal.returns-in-TooLong
returns-in-TooLong c = λ raw h. body_long c.args.definition.now c.told.ensures raw (subst (λ (d : Draft). IsDraft raw d) c.in-TooLong.is h)

pub returns-in-TooMany : goal.returns-in-TooMany
returns-in-TooMany c = λ raw h.
    subst (λ (d : Draft). IsDraft (let_in c.args.definition.now raw) d) (sym c.both_many.ensures)
    (body_many c.args.definition.now c.told.ensures raw c.in-TooMany.nodes _ refl (subst (λ (d : Draft). IsDraft raw d) c.in-TooMany.is h))
