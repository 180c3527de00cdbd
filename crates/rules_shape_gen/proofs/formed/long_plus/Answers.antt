use Rattle.std.proofs.Common.{subst}
use Rattle.path_focus.specs.Outcome.{IsDraft}
use Rattle.path_focus.specs.declared.outcome.Draft.{Draft}
use Rattle.rules_shape_gen.proofs.FormedLaws.{first_long, second_large}
use Rattle.rules_shape_gen.proofs.formed.long_plus.Goals as goal

pub returns-in-TooLarge : goal.returns-in-TooLarge
returns-in-TooLarge c = λ d e f h. second_large d e (subst (λ (x : Draft). IsDraft e x) c.in-TooLarge.is h)

pub returns-in-Whole : goal.returns-in-Whole
returns-in-Whole c = λ d e f h. first_long d e f (subst (λ (x : Draft). IsDraft e x) c.in-Whole.is h).1

pub returns-in-TooLong : goal.returns-in-TooLong
returns-in-TooLong c = λ d e f h. first_long d e f (subst (λ (x : Draft). IsDraft e x) c.in-TooLong.is h).0

pub returns-in-TooMany : goal.returns-in-TooMany
returns-in-TooMany c = λ d e f h. first_long d e f (subst (λ (x : Draft). IsDraft e x) c.in-TooMany.is h).0
