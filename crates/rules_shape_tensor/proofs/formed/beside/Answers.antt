use Rattle.std.proofs.Common.{refl, sym, subst}
use Rattle.path_focus.specs.Outcome.{IsDraft}
use Rattle.path_focus.specs.declared.outcome.Draft.{Draft}
use Rattle.rules_shape_tensor.proofs.FormedLaws.{body_large, body_long, body_many}
use Rattle.rules_shape_tensor.proofs.formed.beside.Goals as goal

pub returns-in-Whole : goal.returns-in-Whole
returns-in-Whole c = λ e h. (refl, (subst (λ (d : Draft). IsDraft e d) c.in-Whole.is h).0)

pub returns-in-TooLarge : goal.returns-in-TooLarge
returns-in-TooLarge c = λ e h node w. body_large c.args.form e node w (subst (λ (d : Draft). IsDraft e d) c.in-TooLarge.is h)

pub returns-in-TooLong : goal.returns-in-TooLong
returns-in-TooLong c = λ e h node w. body_long c.args.form e node w c.requires (subst (λ (d : Draft). IsDraft e d) c.in-TooLong.is h)

pub returns-in-TooMany : goal.returns-in-TooMany
returns-in-TooMany c = λ e h node w.
    subst (λ (d : Draft). IsDraft node d) (sym c.more.ensures)
    (body_many c.args.form e node w c.requires c.in-TooMany.nodes _ refl (subst (λ (d : Draft). IsDraft e d) c.in-TooMany.is h))
