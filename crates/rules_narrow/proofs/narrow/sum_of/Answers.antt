use Rattle.std.proofs.Common.{refl, sym, subst, ◌∙◌}
use Rattle.path_focus.specs.Outcome.{IsDraft}
use Rattle.path_focus.specs.declared.outcome.Draft.{Draft}
use Rattle.term_tree.specs.Syntax.{sum}
use Rattle.term_tree.specs.declared.term.Term.{Term}
use Rattle.rules_narrow.proofs.SumDrafts.{sum_large, sum_long, sum_many}
use Rattle.rules_narrow.proofs.narrow.sum_of.Goals as goal

pub returns-in_ok-term-in-Whole : goal.returns-in_ok-term-in-Whole
returns-in_ok-term-in-Whole c = λ raw h.
    let e = (subst (λ (d : Draft). IsDraft raw d) c.in-Whole.is h).0 in
    subst (λ (t : Term). IsDraft t c.whole.result) (c.in_ok-term-in-Whole.ensures {u = tt}
    ∙ (λ i. sum (c.in_ok-m-in-Whole.ensures {u = tt} i) (e i))) c.whole.ensures

pub returns-in-TooLarge : goal.returns-in-TooLarge
returns-in-TooLarge c = λ raw h. sum_large c.args.m.now c.told.ensures raw (subst (λ (d : Draft). IsDraft raw d) c.in-TooLarge.is h)

pub returns-in-TooLong : goal.returns-in-TooLong
returns-in-TooLong c = λ raw h. sum_long c.args.m.now c.told.ensures raw (subst (λ (d : Draft). IsDraft raw d) c.in-TooLong.is h)

pub returns-in-TooMany : goal.returns-in-TooMany
returns-in-TooMany c = λ raw h.
    subst (λ (d : Draft). IsDraft (sum c.args.m.now raw) d) (sym c.more.ensures)
    (sum_many c.args.m.now c.told.ensures raw c.in-TooMany.nodes _ refl (subst (λ (d : Draft). IsDraft raw d) c.in-TooMany.is h))
