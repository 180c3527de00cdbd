use Rattle.shape_rules.proofs.SameLaws.{same_forms-is}
use Rattle.shape_rules.proofs.rules.same_forms.Goals as goal

pub returns : goal.returns
returns c = same_forms-is c.are_equal.result c.args.a.now c.args.b.now c.are_equal.ensures
