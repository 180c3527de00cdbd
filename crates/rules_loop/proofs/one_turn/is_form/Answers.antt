use Rattle.std.proofs.Common.{sym, ◌∙◌}
use Rattle.rules_loop.proofs.PickLaws.{none_form, some_form}
use Rattle.rules_loop.proofs.one_turn.is_form.Goals as goal

pub returns-in-Some : goal.returns-in-Some
returns-in-Some c = λ raw h. some_form c.args.g.now raw c.in-Some.y _ c.is_same.ensures (sym c.in-Some.is ∙ h)

pub returns-in-None : goal.returns-in-None
returns-in-None c = λ raw h. none_form c.args.g.now raw c.told.ensures (sym c.in-None.is ∙ h)
