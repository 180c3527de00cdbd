use Rattle.std.proofs.Common.{◌≡◌, ◌+◌, ◌-◌, ◌^◌, refl, sym, subst, ◌∙◌, true}
use Rattle.std.specs.Prelude.{min}
use Rattle.affine_index.specs.Normal.{is_normal}
use Rattle.path_focus.specs.Outcome.{IsDraft}
use Rattle.path_focus.specs.declared.outcome.Draft.{Draft}
use Rattle.path_focus.specs.declared.outcome.Draft.TheVariants.{TooMany}
use Rattle.term_tree.specs.Counts.{node_count}
use Rattle.term_tree.specs.Limits.{every_form}
use Rattle.term_tree.specs.Syntax.{add}
use Rattle.term_tree.specs.declared.term.Term.{Term}
use Rattle.rules_shape_gen.proofs.FormedLaws.{normal_fits, normal_short, second_large, second_long, second_many}
use Rattle.rules_shape_gen.proofs.formed.whole_plus.Goals as goal

pub returns-in_ok-term-in-Whole : goal.returns-in_ok-term-in-Whole
returns-in_ok-term-in-Whole c = λ e h.
    let q = subst (λ (d : Draft). IsDraft e d) c.in-Whole.is h in
    subst (λ (t : Term). IsDraft t c.whole.result) (c.in_ok-term-in-Whole.ensures {u = tt} ∙ (λ i. add c.args.first (q.0 i))) c.whole.ensures

pub returns-in-TooLarge : goal.returns-in-TooLarge
returns-in-TooLarge c = λ e h. second_large c.args.first e (subst (λ (d : Draft). IsDraft e d) c.in-TooLarge.is h)

pub returns-in-TooLong : goal.returns-in-TooLong
returns-in-TooLong c = λ e h.
    let normal = subst (λ (e : Term). every_form is_normal e ≡ true) c.get.ensures c.told.ensures in
    second_long c.args.first e (normal_fits c.args.first normal) (subst (λ (d : Draft). IsDraft e d) c.in-TooLong.is h)

pub returns-in-TooMany : goal.returns-in-TooMany
returns-in-TooMany c = λ e h.
    let normal = subst (λ (e : Term). every_form is_normal e ≡ true) c.get.ensures c.told.ensures in
    let made = subst (λ (y : Term). c.both_many-draft.result ≡ TooMany (min (c.in-TooMany.nodes + (node_count y + 1)) (2 ^ 64 - 1))) c.get-in-TooMany.ensures
    c.both_many-draft.ensures in
    subst (λ (d : Draft). IsDraft (add c.args.first e) d) (sym made)
    (second_many c.args.first e (normal_fits c.args.first normal) (normal_short c.args.first normal) c.in-TooMany.nodes _ refl
    (subst (λ (d : Draft). IsDraft e d) c.in-TooMany.is h))
