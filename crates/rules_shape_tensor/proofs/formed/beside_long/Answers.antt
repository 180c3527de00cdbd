use Rattle.std.proofs.Common.{subst}
use Rattle.path_focus.specs.Outcome.{IsDraft}
use Rattle.path_focus.specs.declared.outcome.Draft.{Draft}
use Rattle.rules_shape_tensor.proofs.FormedLaws.{body_large, form_long}
use Rattle.rules_shape_tensor.proofs.formed.beside_long.Goals as goal

pub returns-in-TooLarge : goal.returns-in-TooLarge
returns-in-TooLarge c = λ x e f h node w. body_large x e node w (subst (λ (d : Draft). IsDraft e d) c.in-TooLarge.is h)

pub returns-in-Whole : goal.returns-in-Whole
returns-in-Whole c = λ x e f h node w. form_long x e node w f (subst (λ (d : Draft). IsDraft e d) c.in-Whole.is h).1

pub returns-in-TooLong : goal.returns-in-TooLong
returns-in-TooLong c = λ x e f h node w. form_long x e node w f (subst (λ (d : Draft). IsDraft e d) c.in-TooLong.is h).0

pub returns-in-TooMany : goal.returns-in-TooMany
returns-in-TooMany c = λ x e f h node w. form_long x e node w f (subst (λ (d : Draft). IsDraft e d) c.in-TooMany.is h).0
