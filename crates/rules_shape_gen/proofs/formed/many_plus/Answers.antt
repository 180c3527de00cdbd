use Rattle.std.proofs.Common.{◌≡◌, ◌+◌, ◌-◌, ◌^◌, refl, sym, subst, ◌∙◌}
use Rattle.std.specs.Prelude.{min}
use Rattle.path_focus.specs.Outcome.{IsDraft}
use Rattle.path_focus.specs.declared.outcome.Draft.{Draft}
use Rattle.path_focus.specs.declared.outcome.Draft.TheVariants.{TooMany}
use Rattle.term_tree.specs.Counts.{node_count}
use Rattle.term_tree.specs.Syntax.{add}
use Rattle.term_tree.specs.declared.term.Term.{Term}
use Rattle.rules_shape_gen.proofs.FormedLaws.{all_many, first_many, second_large, second_long}
use Rattle.rules_shape_gen.proofs.formed.many_plus.Goals as goal

pub returns-in-TooLarge : goal.returns-in-TooLarge
returns-in-TooLarge c = λ d e f h. second_large d e (subst (λ (x : Draft). IsDraft e x) c.in-TooLarge.is h)

pub returns-in-Whole : goal.returns-in-Whole
returns-in-Whole c = λ d e f h.
    let q = subst (λ (x : Draft). IsDraft e x) c.in-Whole.is h in
    let made = subst (λ (y : Term). c.both_many-draft.result ≡ TooMany (min (c.args.nodes + (node_count y + 1)) (2 ^ 64 - 1))) (c.get.ensures ∙ q.0)
    c.both_many-draft.ensures in
    subst (λ (x : Draft). IsDraft (add d e) x) (sym made) (first_many d e q.1 q.2 c.args.nodes _ refl f)

pub returns-in-TooLong : goal.returns-in-TooLong
returns-in-TooLong c = λ d e f h. second_long d e f.0 (subst (λ (x : Draft). IsDraft e x) c.in-TooLong.is h)

pub returns-in-TooMany : goal.returns-in-TooMany
returns-in-TooMany c = λ d e f h.
    let g = subst (λ (x : Draft). IsDraft e x) c.in-TooMany.is h in
    subst (λ (x : Draft). IsDraft (add d e) x) (sym c.one_more.ensures)
    (all_many d e c.args.nodes c.in-TooMany.more c.saturating_add.result _ c.saturating_add.ensures refl f g)
